-- The contents of a file: its first three lines, which tell what the bodies are and how many lines each has.
use Rattle.std.specs.Prelude.{ℕ, Bool, cond, List, codes}
use Rattle.std.specs.Str.{bytes_eq}
use Rattle.chains.specs.TickOrder.{within}
use Rattle.sheets.specs.Dues.{any_name, line_ends, number_line, numbered}
use Rattle.sheets.specs.Lines.{next_line}
use Rattle.sheets.specs.Reading.{Reader, ◌>>=◌, ◌>>◌, give, refuse}
use Rattle.sheets.specs.declared.contents.Body.{Body}
use Rattle.sheets.specs.declared.contents.Body.TheVariants.{Jobs, Rows}
use Rattle.sheets.specs.declared.contents.Contents.{Contents}
use Rattle.sheets.specs.declared.faults.Fault.TheVariants.{Contents as Wrong}

-- the body of this name: jobs has 2 to 9 lines, rows 1 to 4,097
unfoldable pub body_named : List ℕ → Reader Body
body_named name =
    cond (bytes_eq name (codes "jobs")) (numbered 2 9 >>= λ lines. give (Jobs lines))
    (cond (bytes_eq name (codes "rows")) (numbered 1 4097 >>= λ lines. give (Rows lines)) (refuse Wrong))

unfoldable pub body_line : Reader Body
body_line = do
  next_line
  name ← any_name
  body ← body_named name
  line_ends
  give body

-- there are always two bodies, and the second has the calls
unfoldable pub contents : Reader Contents
contents = do
  number_line (codes "bodies") Wrong 2 2
  body ← body_line
  calls ← number_line (codes "calls") Wrong 1 200
  give (record { body = body; calls = calls })

-- how many lines a body may have
abbrev pub counted : Body → Bool
counted (Jobs lines) = within 2 9 lines
counted (Rows lines) = within 1 4097 lines
