use Rattle.std.proofs.Common.{ℕ, List, [], ◌∷◌, ◌++◌, map, take, sym, ap, ◌∙◌, append-nil}
use Rattle.std.proofs.lemmas.Grind.{flat_map-append}
use Rattle.std.proofs.lemmas.List.{map_more, take_all}
use Rattle.json.specs.Print.{escape, escape_byte}
use Rattle.mt_path.specs.Keys.{shown_byte}
use Rattle.mt_jobtext.proofs.Windows.{puts_more, puts_none, puts_same}
use Rattle.mt_jobtext.proofs.names.put_key.Goals as goal

pub loop-byte-init : goal.loop-byte-init
loop-byte-init c = puts_none c.args.window.now

pub loop-byte-preserved : goal.loop-byte-preserved
loop-byte-preserved c =
    let key = c.args.key.now in
    let k = c.loop-byte.byte-index in
    let front : List ℕ = map shown_byte (take k key) in
    let byte : ℕ = c.shown_byte.result in
    puts_same (puts_more c.loop-byte.invariant c.put_byte.ensures)
    (ap (λ (l : List ℕ). escape front ++ l) (sym (append-nil (escape_byte byte)))
    ∙ sym (flat_map-append escape_byte front (byte ∷ []))
    ∙ ap escape (ap (λ (b : ℕ). front ++ b ∷ []) c.shown_byte.ensures ∙ sym (map_more shown_byte key k 0 c.loop-byte-test.true)))

pub returns : goal.returns
returns c = puts_same c.loop-byte.invariant (ap (λ (l : List ℕ). escape (map shown_byte l)) (take_all c.loop-byte.byte-index c.args.key.now c.loop-byte-test.false))
