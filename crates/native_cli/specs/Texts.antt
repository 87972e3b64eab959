-- The lines of pcc_native.
use Rattle.std.specs.Prelude.{ℕ, List, codes}
use Rattle.pcc_stages.specs.Requests.{Texts}
use Rattle.pcc_stages.specs.Texts.{texts_with}

-- the arguments are no command
unfoldable pub native_usage_line : List ℕ
native_usage_line = codes "usage: pcc_native POLICY FILE OUT [--name NAME]\n"

-- how to call the program, with an example
unfoldable pub native_help_text : List ℕ
native_help_text = codes "pcc_native checks FILE as pcc check does, and writes its code for x86-64.\n\npcc_native POLICY FILE OUT [--name NAME]\npcc_native --help, pcc_native --version\n\nPOLICY is filter, tag or table, or @NAME for the policy in the file NAME.\nOUT is an object file with the function NAME, or pcc_code.\n\npcc_native filter examples/port/container ../port.o --name port\n"

-- the program's version, and which containers it reads
unfoldable pub native_version_text : List ℕ
native_version_text = codes "pcc_native 1.0.0\ncontainers of version 1 to 4\n"

-- the lines of the program that don't come from what files hold
abbrev pub native_texts : Texts
native_texts = texts_with native_usage_line
