-- A session that was just opened.
use Rattle.std.specs.Prelude.{◌≡◌, ℕ, string_bytes}
use Rattle.chains.specs.Order.{Order}
use Rattle.maps.specs.Rules.{Rules}
use Rattle.study.specs.History.{made}
use Rattle.study.specs.Law.{LawOfRuns}
use Rattle.transcript.specs.Lines.{kind_line}
use Rattle.transcript.specs.Printed.{blank_record, blank_strip}
use Rattle.transcript.specs.declared.session.Session.{Session}

-- its study is newly made of a map and keeps the law of runs, nothing is written, and its text is the first line
pub record Opened {M V : Type 0} (o : Order M V) (r : Rules M) (kind : ℕ) (blank : V) (m : M) (allowance : ℕ) (s : Session V M) : Type 0 where
  pub study : s.study ≡ made r m allowance
  pub law : LawOfRuns o r m allowance
  pub dims : s.dims ≡ r.dims m
  pub strip : s.strip.items ≡ blank_strip blank
  pub log : s.log.items ≡ blank_record
  pub text : string_bytes s.text ≡ kind_line kind
