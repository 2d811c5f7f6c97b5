use Rattle.std.proofs.Common.{rules}
use Rattle.sheets.proofs.ClassTable.{table_rule}
use Rattle.sheets.proofs.classes.class_of.Goals as goal

pub returns : goal.returns
returns c = search (rules, table_rule)
