-- The lines of pcc_auto.
use Rattle.std.specs.Prelude.{ℕ, List, ◌++◌, codes, decimal}
use Rattle.pcc_stages.specs.Requests.{Texts}
use Rattle.pcc_stages.specs.Texts.{texts_with}

-- the arguments are no command
unfoldable pub auto_usage_line : List ℕ
auto_usage_line = codes "usage: pcc_auto POLICY IN OUT [--v2] [--bound N]\n"

-- how to call the program, with examples
unfoldable pub auto_help_text : List ℕ
auto_help_text = codes "pcc_auto finds invariants and a proof; pcc check judges what it writes.\n\npcc_auto POLICY IN OUT [--v2] [--bound N]\npcc_auto --help, pcc_auto --version\n\nPOLICY is filter, tag or table, or @NAME for the policy in the file NAME.\nIN is a source, as for pcc asm, or a container, with no flags.\n\npcc_auto filter examples/lesson/uncut.s ../zeros\npcc_auto filter examples/c/checksum.s ../checksum --v2\n"

-- the program's version, and which containers it reads
unfoldable pub auto_version_text : List ℕ
auto_version_text = codes "pcc_auto 1.0.0\ncontainers of version 1 to 4\n"

-- a flag is given with a container
unfoldable pub flags_line : List ℕ
flags_line = codes "flags with a container\n"

-- so many bytes were written, of a container with so many invariants
unfoldable pub found_line : ℕ → ℕ → List ℕ
found_line count invariants =
    codes "written " ++ decimal count ++ codes ", invariants " ++ decimal invariants ++ codes "\n"

-- the lines of the program that don't come from what files hold
abbrev pub auto_texts : Texts
auto_texts = texts_with auto_usage_line
