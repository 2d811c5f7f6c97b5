use Rattle.std.proofs.Common.{ap, ◌∙◌, arith}
use Rattle.points.specs.Points.{size_of}
use Rattle.maps.specs.Replies.{row_sizes}
use Rattle.maps.specs.RowLaws.{size_most}
use Rattle.maps.proofs.rows.RowsMap.sizes.Goals as goal

pub returns : goal.returns
returns c =
    let self = c.args.self.now in
    let value = c.sizes_of.ensures ∙ ap (row_sizes self.dims) c.size.ensures in
    record {
      value = value;
      within = λ i h. omega (arith, ap (λ s. size_of s i) value, size_most self.dims self.grades.count i self.grades.some h);
    }
