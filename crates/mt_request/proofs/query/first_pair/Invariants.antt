use Rattle.std.proofs.Common.{◌≡◌, option_map, bytes_eq}
use Rattle.std.specs.Prelude.{find}
use Rattle.form_urlencoded.specs.Parse.{pairs_left}
use Rattle.mt_request.specs.Query.{first_pair, text_of}
use Rattle.mt_request.proofs.query.first_pair.Given as goal

abbrev pub invariant-loop-pair : goal.invariant-loop-pair
invariant-loop-pair l =
    (goal.iterator-loop-pair).can_next l.pair-iterator ×
    (goal.iterator-loop-pair).is_finite l.pair-iterator ×
    (option_map (λ p. text_of p.1) (find (λ p. bytes_eq (text_of p.0) l.name) (pairs_left l.pair-iterator)) ≡ first_pair l.name l.query)
