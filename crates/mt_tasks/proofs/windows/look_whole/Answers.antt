use Rattle.std.proofs.Common.{◌≡◌, ◌≤◌, ◌-◌, ℕ, List, length, take, drop, Option, Some, refl, sym, ap, ◌∙◌, subst, arith}
use Rattle.std.specs.Prelude.{IfSome}
use Rattle.std.specs.List.{slice_get}
use Rattle.std.proofs.Math.Seq.{take-length}
use Rattle.std.proofs.lemmas.List.{length-drop}
use Rattle.std.proofs.lemmas.Option.{same_Some}
use Rattle.mt_records.specs.Fate.{files_of}
use Rattle.mt_records.specs.Seen.{after_file}
use Rattle.mt_records.specs.Windows.{IsSeen}
use Rattle.mt_spawn.specs.Orders.{told_of}
use Rattle.mt_spawn.specs.Parts.{size_among, size_in, told_part}
use Rattle.mt_spawn.specs.declared.task.Left.{Left}
use Rattle.mt_spawn.specs.declared.task.Part.TheVariants as part
use Rattle.mt_types.specs.declared.task.Raw.{Raw}
use Rattle.mt_tasks.proofs.Looking.{next_size, whole_shows}
use Rattle.mt_tasks.proofs.windows.look_whole.Goals as goal

pub fill-requires-clause-within : goal.fill-requires-clause-within
fill-requires-clause-within g c =
    let j = c.args.judging.now in
    let held = ap (λ (h : Option Left). size_in h (part.File c.count.result)) c.requires.held in
    let count = ap (λ (k : ℕ). size_among j.left.made (part.File k)) c.count.ensures in
    omega (arith, held, count, next_size j c.args.size c.requires.next, c.requires.len)

pub returns-in-Ok-clause-seen : goal.returns-in-Ok-clause-seen
returns-in-Ok-clause-seen g c =
    let j = c.args.judging.now in
    let p = g.P.Spawner in
    let told = p.told c.args.spawner.now in
    let bytes = c.fill.new.into in
    let k = c.count.result in
    let law : (raw : Raw) → told ≡ Some raw → told_of raw ≡ j.left = λ raw is. same_Some _ _ (sym (g.met.P.Spawner.told_is_held c.args.spawner.now raw is) ∙ c.requires.held) in
    let at : size_among j.left.made (part.File k) ≡ c.args.size.len = ap (λ (n : ℕ). size_among j.left.made (part.File n)) c.count.ensures ∙ next_size j c.args.size c.requires.next in
    let long : length bytes ≡ c.args.size.len = omega (arith, c.fill.auto.into, c.requires.len) in
    let same : length c.args.bytes.now ≡ length bytes = omega (arith, c.fill.auto.into) in
    let filled = subst (λ (n : ℕ). IfSome (told_part told (part.File k)) (λ b. bytes ≡ take n (drop 0 b))) same (c.if-not-fill.ensures.filled refl) in
    let n = c.saturating_sub-end.result in
    let rest : length bytes - n ≡ length (drop n bytes) = omega (arith, length-drop n bytes) in
    let last : take (length bytes - n) (drop n bytes) ≡ drop (length bytes - 12) bytes = ap (λ (m : ℕ). take m (drop n bytes)) rest ∙ take-length (drop n bytes) ∙ ap (λ (m : ℕ). drop m bytes) c.saturating_sub-end.ensures in
    λ is. record {
      window = record { len = c.args.size.len; front = bytes; end = drop (length bytes - 12) bytes };
      after = c.in-Ok.ensures ∙ ap (λ (l : List ℕ). after_file j (record { len = c.args.size.len; front = bytes; end = l })) last;
      fits = record { len = refl; end = omega (arith, long, length-drop (length bytes - 12) bytes); front = omega (arith, long) };
      front = c.are_bytes.ensures;
      shows = subst (λ (n : ℕ). IfSome told (λ raw. IfSome (slice_get (files_of raw.made) n) (λ f. IsSeen (record { len = c.args.size.len; front = bytes; end = drop (length bytes - 12) bytes }) f.bytes))) c.count.ensures
          (whole_shows k c.args.size j.left told law at bytes long filled);
    }
