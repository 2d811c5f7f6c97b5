use Rattle.worked.proofs.Files.{worked_files_lem}
use Rattle.worked.proofs.worked_files.Goals as goal

pub returns : goal.returns
returns c = worked_files_lem
