use Rattle.std.proofs.Common.{◌≡◌, ◌≤◌, ◌-◌, ℕ, List, length, take, drop, Option, Some, refl, sym, ap, ◌∙◌, subst, arith}
use Rattle.std.specs.Prelude.{IfSome}
use Rattle.std.specs.List.{slice_get}
use Rattle.std.proofs.lemmas.List.{length-drop}
use Rattle.std.proofs.lemmas.Option.{same_Some}
use Rattle.mt_records.specs.Fate.{files_of}
use Rattle.mt_records.specs.Seen.{after_file}
use Rattle.mt_records.specs.Windows.{IsSeen}
use Rattle.mt_spawn.specs.Orders.{told_of}
use Rattle.mt_spawn.specs.Parts.{size_among, size_in, told_part}
use Rattle.mt_spawn.specs.declared.task.Left.{Left}
use Rattle.mt_spawn.specs.declared.task.Part.TheVariants as part
use Rattle.mt_types.specs.declared.task.Raw.{Raw}
use Rattle.mt_tasks.proofs.Looking.{ends_show, next_size}
use Rattle.mt_tasks.proofs.windows.look_ends.Goals as goal

pub fill-requires-clause-within : goal.fill-requires-clause-within
fill-requires-clause-within g c =
    let j = c.args.judging.now in
    let held = ap (λ (h : Option Left). size_in h (part.File c.count.result)) c.requires.held in
    let count = ap (λ (k : ℕ). size_among j.left.made (part.File k)) c.count.ensures in
    omega (arith, held, count, next_size j c.args.size c.requires.next, c.requires.len)

pub fill-requires-2-clause-within : goal.fill-requires-2-clause-within
fill-requires-2-clause-within g c =
    let j = c.args.judging.now in
    let held = ap (λ (h : Option Left). size_in h (part.File c.count.result)) (c.fill.ensures.held ∙ c.requires.held) in
    let count = ap (λ (k : ℕ). size_among j.left.made (part.File k)) c.count.ensures in
    omega (arith, held, count, next_size j c.args.size c.requires.next, c.requires.len)

pub returns-in-Ok-clause-seen : goal.returns-in-Ok-clause-seen
returns-in-Ok-clause-seen g c =
    let j = c.args.judging.now in
    let p = g.P.Spawner in
    let told = p.told c.args.spawner.now in
    let front = c.fill.new.into in
    let end = c.fill-2.new.into in
    let k = c.count.result in
    let law : (raw : Raw) → told ≡ Some raw → told_of raw ≡ j.left = λ raw is. same_Some _ _ (sym (g.met.P.Spawner.told_is_held c.args.spawner.now raw is) ∙ c.requires.held) in
    let at : size_among j.left.made (part.File k) ≡ c.args.size.len = ap (λ (n : ℕ). size_among j.left.made (part.File n)) c.count.ensures ∙ next_size j c.args.size c.requires.next in
    let first = c.if-not-fill.ensures.filled refl in
    let last = subst (λ (t : Option Raw). IfSome (told_part t (part.File k)) (λ b. end ≡ take 12 (drop (c.args.size.len - 12) b))) c.fill.ensures.told (c.if-not-fill-2.ensures.filled refl) in
    λ is. record {
      window = record { len = c.args.size.len; front = front; end = end };
      after = c.in-Ok.ensures;
      fits = record { len = refl; end = omega (arith, c.fill-2.auto.into, c.requires.len); front = omega (arith, c.fill.auto.into, c.requires.len) };
      front = c.are_bytes.ensures;
      shows = subst (λ (n : ℕ). IfSome told (λ raw. IfSome (slice_get (files_of raw.made) n) (λ f. IsSeen (record { len = c.args.size.len; front = front; end = end }) f.bytes))) c.count.ensures
          (ends_show k c.args.size j.left told law at front end c.requires.len first last);
    }
