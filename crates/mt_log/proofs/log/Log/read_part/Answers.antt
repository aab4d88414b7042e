-- The part lies within the record at the place, and that one within the file.
use Rattle.std.proofs.Common.{◌≡◌, ℕ, ◌+◌, ◌-◌, ◌<◌, List, length, take, drop, ap, arith, subst, sym, ◌∙◌}
use Rattle.std.proofs.lemmas.Option.{MatchOption-at_some}
use Rattle.mt_disk.specs.Files.{contents}
use Rattle.mt_log.specs.LogImage.{payloads_of}
use Rattle.mt_log.specs.contracts.log.Log.{the_view}
use Rattle.mt_log.specs.LogState.{LogState, IsThere, told}
use Rattle.mt_log.specs.Places.{first_payload}
use Rattle.mt_log.proofs.Fronts.{length-holds}
use Rattle.mt_log.proofs.Places.{not_empty, part_behind, payload_behind, record_within, some_place}
use Rattle.mt_log.proofs.Standing.{tells_log}
use Rattle.mt_log.proofs.log.Log.read_part.Goals as goal

pub read-requires : goal.read-requires
read-requires g c files is =
    let d = g.D.Disk in
    let there = subst (λ (s : LogState). IsThere d.seen c.args.disk.now s) (sym c.self.view_is) c.requires.there in
    let is_open = ap (λ (s : LogState). s.closed) c.self.view_is ∙ c.requires.is_open in
    let log = there is_open files is in
    let ps = payloads_of files in
    let within = c.requires.part ps (ap told is) in
    let some : 0 < length c.args.into.now = not_empty (length c.args.into.now) (c.if-is_empty.ensures) in
    let at = some_place c.args.place ps (omega (arith, within, some)) in
    let size = ap length (ap first_payload at.is) in
    omega (arith, record_within _ _ _ _ log.holds c.args.place at, (length-holds _ _ _ _ log.holds).1, c.self.invariant, c.saturating_add.ensures, c.saturating_add-at.ensures, within, size)

pub returns-in-Ok-clause-part : goal.returns-in-Ok-clause-part
returns-in-Ok-clause-part g c ps is =
    let d = g.D.Disk in
    let there = subst (λ (s : LogState). IsThere d.seen c.args.disk.now s) (sym c.self.view_is) c.requires.there in
    let is_open = ap (λ (s : LogState). s.closed) c.self.view_is ∙ c.requires.is_open in
    let log = tells_log d.seen c.args.disk.now (the_view c.self.inside) there is_open ps is in
    let within = c.requires.part ps is in
    let some : 0 < length c.args.into.now = not_empty (length c.args.into.now) (c.if-is_empty.ensures) in
    let at = some_place c.args.place ps (omega (arith, within, some)) in
    let payload = ap first_payload at.is in
    let bytes = contents log.files c.self.inside.file in
    let n = length c.args.into.now in
    let place : c.saturating_add-at.result ≡ c.args.place + 21 + c.args.from = omega (arith, record_within _ _ _ _ log.holds c.args.place at, c.self.invariant, c.saturating_add.ensures, c.saturating_add-at.ensures, within, ap length payload) in
    MatchOption-at_some _ _ _ log.is c.in-Ok.ensures.bytes ∙ ap (λ (k : ℕ). take (k + n - k) (drop k bytes)) place
    ∙ part_behind bytes at.payload _ c.args.place c.args.from n (payload_behind _ _ _ _ log.holds c.args.place at) (omega (arith, within, ap length payload))
    ∙ ap (λ (l : List ℕ). take (c.args.from + n - c.args.from) (drop c.args.from l)) (sym payload)
