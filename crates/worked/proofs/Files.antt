-- The worked files, by computation.
use Rattle.std.proofs.Common.{refl}
use lib.Utf8.{encode}
use Rattle.std.specs.Fmt.{digits}
use Rattle.sheets.specs.Dues.{any_letters, any_mark, any_name, any_number, line_ends, named, number_line, numbered}
use Rattle.sheets.specs.Lines.{file_ends, next_line}
use Rattle.sheets.specs.Words.{word_due}
use Rattle.sheets.specs.CallsBody.{call_line, call_named, calls_body, letter_value, line_values, tick_value}
use Rattle.sheets.specs.Contents.{body_line, body_named, contents}
use Rattle.sheets.specs.JobsBody.{job_line, jobs_body, lock_due}
use Rattle.sheets.specs.RowsBody.{grades_due, grades_line, new_point, point_due, row_line, rows_body}
use Rattle.sheets.specs.Sheets.{jobs_sheet, read_file, rows_sheet, sheet}
use Rattle.worked.specs.Files.{WorkedFiles}

pub worked_files_lem : WorkedFiles
unfolding read_file sheet jobs_sheet rows_sheet contents body_line body_named jobs_body job_line lock_due rows_body grades_due grades_line new_point point_due row_line calls_body call_line call_named line_values tick_value letter_value next_line file_ends word_due any_name any_number any_letters any_mark named numbered number_line line_ends digits encode
worked_files_lem = record { panel = refl; crossed = refl; unlisted = refl; torn = refl }
