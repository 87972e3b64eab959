use Rattle.std.proofs.Common.{ap, sym, subst}
use Rattle.file_port.specs.Files.{FilesState, Writes}
use Rattle.file_port.specs.MemFiles.{state_of_mem_files}
use Rattle.file_port.proofs.WriteLemmas.{written_log, written_whole}
use Rattle.file_port.proofs.mem_files.MemFilesFiles.write.Goals as goal

-- the log is no part of what is told of the files
pub returns-clause-meaning : goal.returns-clause-meaning
returns-clause-meaning c =
    let answer = c.store-answer in
    subst (λ (s : FilesState). Writes c.args.name.now c.args.bytes.now (state_of_mem_files c.args.self.now) s answer.result) (ap state_of_mem_files (sym c.self.view_is)) answer.ensures.meaning

pub returns-clause-logged : goal.returns-clause-logged
returns-clause-logged c = written_log _ _ c.args.self.now c.args.name.now c.args.bytes.now c.store-answer.result _ c.self.view_is c.then-self-inside.ensures c.store-answer.ensures.exact

pub returns-clause-exact : goal.returns-clause-exact
returns-clause-exact c = written_whole _ _ c.args.self.now c.args.name.now c.args.bytes.now c.store-answer.result _ c.self.view_is c.then-self-inside.ensures c.store-answer.ensures.exact

pub returns-clause-sure : goal.returns-clause-sure
returns-clause-sure c = c.store-answer.ensures.sure
