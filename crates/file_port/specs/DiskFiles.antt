-- What is told of the files of a system.
use Rattle.std.specs.Prelude.{List, None}
use Rattle.file_port.specs.Events.{Event}
use Rattle.file_port.specs.Files.{FilesState}
use Rattle.file_port.specs.declared.disk_files.DiskFiles.{DiskFiles}

-- nothing is told of their content
abbrev pub state_of_disk_files : {R : Type 0} → DiskFiles R → FilesState
state_of_disk_files files = record { contents = None; read_faults = files.read_faults; write_faults = files.write_faults }

-- the calls so far
abbrev pub log_of_disk_files : {R : Type 0} → DiskFiles R → List Event
log_of_disk_files files = files.log.events
