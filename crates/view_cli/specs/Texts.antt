-- The lines that say how the program is called, and those that don't come from what files hold.
use Rattle.std.specs.Prelude.{ℕ, List, ◌++◌, codes, decimal}
use Rattle.pcc_stages.specs.Requests.{Texts}
use Rattle.pcc_stages.specs.Texts.{texts_with}

-- the arguments are no command
unfoldable pub view_usage_line : List ℕ
view_usage_line = codes "usage: pcc_view list|goals|packet|formula|source\n"

-- the forms of commands, with examples
unfoldable pub help_text : List ℕ
help_text = codes "pcc_view shows what pcc judges; it judges nothing.\n\npcc_view list FILE [SOURCE]          the container as a source, beside the lines of SOURCE\npcc_view goals POLICY FILE [SOURCE] [--only-missing] [--all]\n                                     the condition's goals, with what is known, and which are easy\npcc_view packet POLICY FILE PACKETS K [--steps N]\n                                     the run on packet K, step by step\npcc_view formula FILE [--v2] [--bound] [--policy]\n                                     where a formula is wrong, or the two of a policy's file\npcc_view source FILE [--v2] [--bound N]\n                                     where a source is wrong, as pcc asm reads it\npcc_view --help, pcc_view --version\n\nPOLICY is filter, tag or table, or @NAME for the policy in the file NAME.\n\npcc_view list examples/port/container examples/port/source.s\npcc_view goals filter examples/port/container\npcc_view packet filter examples/port/container examples/frames/packets 0\n"

-- the program's version, and which containers it reads
unfoldable pub version_text : List ℕ
version_text = codes "pcc_view 1.0.0\ncontainers of version 1 to 4\n"

-- a formula's text is longer than a line of a policy may be
unfoldable pub formula_too_long_line : List ℕ
formula_too_long_line = codes "formula TooLong\n"

-- there is no packet of the number
unfoldable pub absent_packet_line : ℕ → List ℕ
absent_packet_line k = codes "no packet " ++ decimal k ++ codes "\n"

-- a policy from a file says of no packet in which state its run starts
unfoldable pub no_start_line : List ℕ
no_start_line = codes "no start: the policy is from a file\n"

-- the lines of a program, with this line of usage
abbrev pub view_texts : Texts
view_texts = texts_with view_usage_line
