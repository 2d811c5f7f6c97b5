-- What a reply table means as a map, as a sheet tells it.
use Rattle.std.specs.Prelude.{◌≡◌, ℕ, List, length}
use Rattle.std.specs.List.{slice_get}
use Rattle.chains.specs.Letters.{place_of}
use Rattle.chains.specs.Order.{Order}
use Rattle.maps.specs.Replies.{row_meaning, row_sizes}
use Rattle.maps.specs.Rules.{Rules}
use Rattle.sheets.specs.RowsBody.{Table}

abbrev pub table_order : Order Table ℕ
table_order = record { size = λ t. length t.letters; member = λ t. slice_get t.letters; rank = λ t. place_of t.letters }

abbrev pub table_sizes : Table → List ℕ
table_sizes t = row_sizes t.dims (length t.letters)

abbrev pub table_rules : Rules Table
table_rules = record {
  dims = λ t. t.dims;
  sizes = table_sizes;
  meaning = λ t. row_meaning (table_sizes t) t.rows;
  puts = λ t q n. n ≡ t;
}
