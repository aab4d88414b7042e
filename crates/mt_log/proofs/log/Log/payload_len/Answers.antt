-- The record at the place lies within the file.
use Rattle.std.proofs.Common.{◌≡◌, ℕ, ◌+◌, length, take, drop, ap, arith, subst, sym, ◌∙◌}
use Rattle.std.proofs.lemmas.Option.{MatchOption-at_some}
use Rattle.mt_disk.specs.Files.{contents}
use Rattle.mt_log.specs.LogImage.{payloads_of}
use Rattle.mt_log.specs.contracts.log.Log.{the_view}
use Rattle.mt_log.specs.LogState.{LogState, IsThere, told}
use Rattle.mt_log.specs.Places.{first_payload}
use Rattle.mt_log.proofs.Fronts.{length-holds}
use Rattle.mt_log.proofs.Places.{length_read, part_at, record_within}
use Rattle.mt_log.proofs.Standing.{tells_log}
use Rattle.mt_log.proofs.log.Log.payload_len.Goals as goal

pub read-requires : goal.read-requires
read-requires g c files is =
    let d = g.D.Disk in
    let there = subst (λ (s : LogState). IsThere d.seen c.args.disk.now s) (sym c.self.view_is) c.requires.there in
    let is_open = ap (λ (s : LogState). s.closed) c.self.view_is ∙ c.requires.is_open in
    let log = there is_open files is in
    let at = c.requires.place (payloads_of files) (ap told is) in
    omega (arith, record_within _ _ _ _ log.holds c.args.place at, (length-holds _ _ _ _ log.holds).1, c.self.invariant, c.saturating_add.ensures)

pub returns-clause-len : goal.returns-clause-len
returns-clause-len g c ps is =
    let d = g.D.Disk in
    let there = subst (λ (s : LogState). IsThere d.seen c.args.disk.now s) (sym c.self.view_is) c.requires.there in
    let is_open = ap (λ (s : LogState). s.closed) c.self.view_is ∙ c.requires.is_open in
    let log = tells_log d.seen c.args.disk.now (the_view c.self.inside) there is_open ps is in
    let at = c.requires.place ps is in
    let place : c.saturating_add.result ≡ c.args.place + 1 = omega (arith, record_within _ _ _ _ log.holds c.args.place at, c.self.invariant, c.saturating_add.ensures) in
    let bytes = contents log.files c.self.inside.file in
    let four = MatchOption-at_some _ _ _ log.is c.in_ok-read.ensures.bytes ∙ part_at c.saturating_add.result 4 bytes ∙ ap (λ (n : ℕ). take 4 (drop n bytes)) place in
    length_read _ _ _ _ log.holds c.args.place at c.length_of.result c.read.new.into four c.length_of.ensures (omega arith) ∙ sym (ap length (ap first_payload at.is))
