use Rattle.std.proofs.Common.{length, le-ltb, arith}
use Rattle.file_port.proofs.mem_files.copy_file.Goals as goal

-- the bytes were found, and there is no memory for them
pub returns-in-Err : goal.returns-in-Err
returns-in-Err c = (c.in-Some.bytes.now, rw (c.in-Some.is, le-ltb c.args.max (length c.in-Some.bytes.now) (omega arith)))
