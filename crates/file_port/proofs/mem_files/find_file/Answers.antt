use Rattle.std.proofs.Common.{sym, ◌∙◌, reverse}
use Rattle.file_port.proofs.FileMaps.{get-file_map}
use Rattle.file_port.proofs.mem_files.find_file.Goals as goal

pub returns : goal.returns
returns c = c.search_files.ensures ∙ sym (get-file_map (reverse c.args.files.now) c.args.name.now)
