-- Maps that a caller cannot tell apart: by their members and ranks, their coordinates, and their answers.
use Rattle.std.proofs.Common.{◌≡◌, [], length, map, vec_items, sym, refl, ap, ◌∙◌, arith}
use mathlib.Core.Path.{fun_ext}
use Rattle.std.proofs.lemmas.List.{length-map, length-take-le}
use Rattle.chains.specs.GradeOrder.{listed}
use Rattle.chains.specs.Order.{Order}
use Rattle.transcript.specs.Ticks.{tick_member, tick_rank}
use Rattle.chains.specs.declared.grades.letters.Grades.{Grades}
use Rattle.points.specs.Points.{at_points}
use Rattle.maps.specs.JobOrder.{job_order}
use Rattle.sheets.specs.JobsBody.{panel_of, terms_of}
use Rattle.transcript.specs.Panels.{longest_terms, panel_order, panel_rules}
use Rattle.maps.specs.Recall.{memo_rules, recall_or, recalled, stored}
use Rattle.maps.specs.Replies.{row_meaning, row_sizes}
use Rattle.maps.specs.Response.{job_rules}
use Rattle.maps.specs.RowsMade.{row_order, row_rules, rows_of}
use Rattle.maps.specs.Rules.{Rules, SameOrder, SameRules}
use Rattle.sheets.specs.RowsBody.{table_of}
use Rattle.transcript.specs.Tables.{table_order, table_rules}
use Rattle.chains.specs.Through.{through}
use Rattle.maps.specs.declared.jobs.panel.Jobs.{Jobs}
use Rattle.maps.specs.declared.memo.store.Memo.{Memo}
use Rattle.maps.specs.declared.rows.table.Rows.{Rows}
use Rattle.transcript.proofs.Terms.{longest_of_terms, meaning_of_terms, sizes_of_terms}

pub record Alike {M N V : Type 0} (o : Order M V) (r : Rules M) (m : M) (o' : Order N V) (r' : Rules N) (n : N) : Type 0 where
  pub member : o.member m ≡ o'.member n
  pub rank : o.rank m ≡ o'.rank n
  pub dims : r.dims m ≡ r'.dims n
  pub sizes : r.sizes m ≡ r'.sizes n
  pub meaning : r.meaning m ≡ r'.meaning n

-- a map that was asked, and the map as it was
pub same_alike : {M V : Type 0} (o : Order M V) (r : Rules M) (m n : M) → SameRules r m n → SameOrder o m n → Alike o r n o r m
same_alike o r m n same order = record { member = fun_ext order.member; rank = fun_ext order.rank; dims = same.dims; sizes = same.sizes; meaning = fun_ext same.meaning }

-- a jobs map and its panel
pub panel_alike : (m : Jobs) → Alike job_order job_rules m panel_order panel_rules (panel_of m)
panel_alike m =
    let jobs = vec_items m.jobs in
    let size : m.ticks.size ≡ longest_terms (map terms_of jobs) = m.sized ∙ longest_of_terms jobs in
    record {
      member = ap (tick_member m.ticks.step) size;
      rank = ap (tick_rank m.ticks.step) size;
      dims = m.jobs.ok.0 ∙ sym (length-map jobs terms_of);
      sizes = sizes_of_terms jobs;
      meaning = meaning_of_terms jobs;
    }

-- a rows map and its table
listed_count : (c : Grades) → c.count ≡ length (listed c)
listed_count c = sym (length-take-le c.count c.letters (omega (arith, c.room, c.most)))

pub table_alike : (m : Rows) → Alike row_order row_rules m table_order table_rules (table_of m)
table_alike m =
    let count = listed_count m.grades in
    record {
      member = refl;
      rank = refl;
      dims = refl;
      sizes = ap (row_sizes m.dims) count;
      meaning = ap (λ n. row_meaning (row_sizes m.dims n) (rows_of m)) count;
    }

-- memos with nothing stored, over such maps
pub memo_alike : {M N V : Type 0} (o : Order M V) (r : Rules M) (m : Memo M) (o' : Order N V) (r' : Rules N) (n : Memo N) → stored m ≡ [] → stored n ≡ [] → Alike o r m.map o' r' n.map → Alike (through (λ l. l.map) o) (memo_rules r) m (through (λ l. l.map) o') (memo_rules r') n
memo_alike o r m o' r' n none none' a =
    let empty : stored m ≡ stored n = none ∙ sym none' in
    record {
      member = a.member;
      rank = a.rank;
      dims = a.dims;
      sizes = a.sizes;
      meaning = λ i. at_points (a.sizes i) (λ q. recall_or (recalled (a.sizes i) (empty i) q) (a.meaning i q));
    }
