use Rattle.std.proofs.Common.{◌≡◌, ◌++◌, ◌∷◌, ℕ, List, [], get_or, map, take, length, refl, sym, ap, ◌∙◌, append-nil, arith}
use Rattle.std.specs.List.{flat_map}
use Rattle.mt_split.specs.Partition.{fields_of, field_at}
use Rattle.mt_split.proofs.Laid.{joined-cons, joined-empty, none_of, first_of_list, whole_front}
use Rattle.mt_split.proofs.key.put_fields.Goals as goal

pub returns-in_default : goal.returns-in_default
returns-in_default c =
    let field : ℕ → List ℕ = field_at (fields_of c.args.delimiter c.args.bytes.now) in
    rw (joined-empty c.args.delimiter field c.args.numbers.now (none_of c.args.numbers.now c.in_default.ensures.cases)) (sym (append-nil c.args.out.now.items))

pub returns : goal.returns
returns c =
    let field : ℕ → List ℕ = field_at (fields_of c.args.delimiter c.args.bytes.now) in
    let numbers : c.args.numbers.now ≡ get_or c.args.numbers.now 0 0 ∷ c.in-Some.others.now = first_of_list _ _ _ c.in-Some.ensures.cases.0 in
    c.loop-number.invariant
    ∙ ap (λ (key : List ℕ). c.args.out.now.items ++ key) (ap (λ (others : List ℕ). field (get_or c.args.numbers.now 0 0) ++ flat_map (λ p. c.args.delimiter ∷ p) (map field others)) (whole_front c.in-Some.others.now c.loop-number.number-index c.loop-number-test.false)
    ∙ joined-cons c.args.delimiter field c.args.numbers.now (get_or c.args.numbers.now 0 0) c.in-Some.others.now numbers)
