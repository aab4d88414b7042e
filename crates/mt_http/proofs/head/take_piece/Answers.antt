-- All but the last byte go on with the head; the last one may end it.
use Rattle.std.proofs.Common.{◌++◌, ◌∷◌, [], List, ℕ, ap, sym, subst, ◌∙◌, append_assoc, ◌-◌, length, take, get_or}
use Rattle.mt_http.specs.Reading.{IsHeadFront}
use Rattle.mt_http.proofs.EndsWith.{front_most, last_of_piece, piece_taken}
use Rattle.mt_http.proofs.head.take_piece.Goals as goal

pub take_byte-requires : goal.take_byte-requires
take_byte-requires c = subst IsHeadFront (sym c.in-Ok.ensures.items) (front_most c.args.head.now.items c.args.piece.now c.requires.front c.requires.line)

pub returns-in-Ok : goal.returns-in-Ok
returns-in-Ok c =
    let old = c.args.head.now.items in
    let piece = c.args.piece.now in
    let split = ap (λ (l : List ℕ). old ++ l) (last_of_piece piece c.requires.some) in
    let most : ℕ = length piece - 1 in
    let b : ℕ = get_or piece most 0 in
    piece_taken old piece _ _ c.take_byte.result _ (ap (λ (l : List ℕ). l ++ b ∷ []) c.in-Ok.ensures.items ∙ (append_assoc old (take most piece) (b ∷ []) ∙ sym split)) c.take_byte.ensures
