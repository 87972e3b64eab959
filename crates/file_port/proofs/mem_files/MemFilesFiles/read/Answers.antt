use Rattle.std.proofs.Common.{ap, sym, subst}
use Rattle.file_port.specs.Events.{given_of}
use Rattle.file_port.specs.Files.{FilesState, Reads}
use Rattle.file_port.specs.MemFiles.{state_of_mem_files}
use Rattle.file_port.proofs.mem_files.MemFilesFiles.read.Goals as goal

-- the log is no part of what is told of the files
pub returns-clause-meaning : goal.returns-clause-meaning
returns-clause-meaning c =
    let answer = c.answer-answer in
    subst (λ (s : FilesState). Reads c.args.name.now c.args.max (state_of_mem_files c.args.self.now) s (given_of answer.result)) (ap state_of_mem_files (sym c.self.view_is)) answer.ensures.meaning
