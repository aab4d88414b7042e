use Rattle.std.proofs.Common.{◌≡◌, ◌+◌, ◌≤◌, ◌∷◌, ◌++◌, ℕ, List, [], take, drop, length, get_or, refl, subst, sym, ap, ◌∙◌, arith, append-nil}
use Rattle.std.proofs.Math.ListN.{drop_of_length-le}
use Rattle.std.proofs.lemmas.List.{drop-drop, length-drop, length-set, length-replicate}
use Rattle.mt_split.specs.declared.parts.Span.{Span}
use Rattle.mt_split.specs.Partition.{part_of, lines_of, line_key, reducer_of}
use Rattle.mt_split.specs.Spans.{bytes_in}
use Rattle.mt_split.proofs.Laid.{laid_more, within_more, laid_none, all_within, part-empty, IsNext}
use Rattle.mt_split.proofs.parts.split.Goals as goal

pub loop-from-init : goal.loop-from-init
loop-from-init c =
    let none = laid_none c.args.text.now c.args.n c.args.rule.now c.in_ok-parts.parts.items c.args.n c.in_ok-parts.ensures in
    record {
      bound = omega arith;
      count = ap length c.in_ok-parts.ensures ∙ length-replicate c.args.n [];
      within = λ r. all_within c.args.text.now _ (none r);
      part = λ r _. ap (λ (spans : List Span). bytes_in c.args.text.now spans ++ part_of c.args.text.now c.args.n c.args.rule.now r) (none r);
    }

pub loop-from-preserved : goal.loop-from-preserved
loop-from-preserved c =
    let text = c.args.text.now in
    let from = c.loop-from.from in
    let len = c.line_len-len.result in
    let parts = c.loop-from.invariant in
    let IsFirst : List ℕ → Type 0 = λ t. lines_of t ≡ take len t ∷ lines_of (drop len t) in
    let first : IsFirst (drop from text) = subst IsFirst c.behind-rest.ensures c.line_len-len.ensures.first in
    let bound : from + len ≤ length text = omega (arith, parts.bound, length-drop from text, ap length c.behind-rest.ensures, c.line_len-len.ensures.bound) in
    let next : IsNext text c.args.n c.args.rule.now c.loop-from.parts.items c.add.new.parts.items from len c.in_ok-reducer.reducer record { from = from; len = len } = record {
      added = c.in_ok-add.ensures;
      there = omega (arith, parts.count, c.in_ok-reducer.ensures.below);
      begins = refl;
      counts = refl;
      first = first ∙ ap (λ (t : List ℕ). take len (drop from text) ∷ lines_of t) (drop-drop len from text);
      goes = c.in_ok-reducer.ensures.value ∙ ap (λ (t : List ℕ). reducer_of (line_key (take len t) c.args.rule.now) c.args.n) c.behind-rest.ensures;
    } in
    record {
      bound = bound;
      count = ap length next.added ∙ length-set c.loop-from.parts.items c.in_ok-reducer.reducer _ ∙ parts.count;
      within = λ r. within_more text c.args.n c.args.rule.now _ _ from len _ _ next bound r (parts.within r);
      part = λ r below. laid_more text c.args.n c.args.rule.now _ _ from len _ _ next r _ (parts.part r below);
    }

pub returns : goal.returns
returns c =
    let parts = c.loop-from.invariant in
    record {
      count = parts.count;
      within = parts.within;
      part = λ r below.
          sym (append-nil _) ∙ ap (λ (rest : List ℕ). bytes_in c.args.text.now (get_or c.loop-from.parts.items r []) ++ rest)
          (sym (ap (λ (text : List ℕ). part_of text c.args.n c.args.rule.now r) (drop_of_length-le c.args.text.now c.loop-from-test.false) ∙ part-empty c.args.n c.args.rule.now r))
          ∙ parts.part r below;
    }
