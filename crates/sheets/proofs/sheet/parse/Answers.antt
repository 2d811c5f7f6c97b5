use Rattle.std.proofs.Common.{Err, arith, rules}
use Rattle.sheets.specs.Reading.{state_of}
use Rattle.sheets.specs.declared.faults.Fault.TheVariants.{Text, Size}
use Rattle.sheets.specs.declared.faults.Unread.TheVariants.{Bad}
use Rattle.sheets.proofs.CountingFile.{told_within}
use Rattle.sheets.proofs.FileRead.{empty_file, file_read, large_file}
use Rattle.sheets.proofs.WrittenJobs.{jobs_read_back}
use Rattle.sheets.proofs.WrittenRows.{rows_read_back}
use Rattle.sheets.proofs.sheet.parse.Goals as goal

pub returns-then-file-gt-LARGEST : goal.returns-then-file-gt-LARGEST
returns-then-file-gt-LARGEST c =
    let means = large_file c.args.file.now (search rules) in
    record { means = means; told = omega arith; jobs_back = jobs_read_back c.args.file.now (Err (Bad Size 0)) means; rows_back = rows_read_back c.args.file.now (Err (Bad Size 0)) means }

pub returns-then-is_empty : goal.returns-then-is_empty
returns-then-is_empty c =
    let means = empty_file c.args.file.now (search rules) in
    record { means = means; told = omega arith; jobs_back = jobs_read_back c.args.file.now (Err (Bad Text 1)) means; rows_back = rows_read_back c.args.file.now (Err (Bad Text 1)) means }

pub returns : goal.returns
returns c =
    let means = file_read c.args.file.now (state_of c.new-scanner.result) (state_of c.read_sheet.new.scanner) c.read_sheet.result (search rules) (omega arith) c.new-scanner.ensures c.read_sheet.ensures in
    record { means = means; told = told_within c.args.file.now c.read_sheet.result means; jobs_back = jobs_read_back c.args.file.now c.read_sheet.result means; rows_back = rows_read_back c.args.file.now c.read_sheet.result means }
