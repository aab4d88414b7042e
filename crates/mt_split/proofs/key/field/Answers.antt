use Rattle.std.proofs.Common.{◌≡◌, ◌+◌, ◌-◌, ℕ, suc, List, [], get_or, refl, sym, ap, ◌∙◌, arith}
use Rattle.std.proofs.lemmas.Bool.{eq-eqb, ne_eqb}
use Rattle.mt_split.specs.Partition.{fields_of, field_at}
use Rattle.mt_split.proofs.Cuts.{NoneBefore, next_field, first_field, no_field}
use Rattle.mt_split.proofs.key.field.Goals as goal

pub returns-then-number-eq0 : goal.returns-then-number-eq0
unfolding field_at
returns-then-number-eq0 c = rw (c.if-number-eq0.true) refl

pub returns-then-end-rest : goal.returns-then-end-rest
unfolding field_at
returns-then-end-rest c =
    let e : c.args.number - c.loop-k.k ≡ suc (c.args.number - (c.loop-k.k + 1)) = omega arith in
    rw (ne_eqb _ _ c.if-number-eq0.false)
    (no_field c.args.delimiter c.loop-k.rest.now c.place_of-end.result _ record { none = c.place_of-end.ensures.none } (omega (arith, c.place_of-end.ensures.bound, c.if-end-rest.true))
    ∙ sym (ap (λ (n : ℕ). get_or (fields_of c.args.delimiter c.loop-k.rest.now) n []) e) ∙ c.loop-k.invariant)

pub loop-k-preserved : goal.loop-k-preserved
loop-k-preserved c =
    let e : c.args.number - c.loop-k.k ≡ suc (c.args.number - (c.loop-k.k + 1)) = omega arith in
    rw (c.behind-rest.ensures)
    (next_field c.args.delimiter c.loop-k.rest.now c.place_of-end.result (c.args.number - (c.loop-k.k + 1)) record { none = c.place_of-end.ensures.none }
    c.if-end-rest.false (c.place_of-end.ensures.found c.if-end-rest.false)
    ∙ sym (ap (λ (n : ℕ). get_or (fields_of c.args.delimiter c.loop-k.rest.now) n []) e) ∙ c.loop-k.invariant)

pub returns : goal.returns
unfolding field_at
returns c =
    let e : c.args.number - c.loop-k.k ≡ 0 = omega arith in
    rw (ne_eqb _ _ c.if-number-eq0.false)
    (first_field c.args.delimiter c.loop-k.rest.now c.place_of.result record { none = c.place_of.ensures.none } c.place_of.ensures.bound c.place_of.ensures.found
    ∙ sym (ap (λ (n : ℕ). get_or (fields_of c.args.delimiter c.loop-k.rest.now) n []) e) ∙ c.loop-k.invariant)
