use Rattle.std.proofs.Common.{◌≡◌, ◌-◌, ℕ, List, length-drop, ◌++◌, ◌∷◌, [], length, take, drop, rules, ap, ◌∙◌, arith}
use Rattle.std.proofs.lemmas.List.{take_all}
use Rattle.mt_path.specs.Keys.{parts_of}
use Rattle.mt_tree.specs.Walk.{cleared, place_in}
use Rattle.mt_tree.proofs.Paging.{paging-begun, paging-outside, paging-child, paging-fewer, paging-below}
use Rattle.mt_tree.proofs.listing.page_rows.Goals as goal

-- a slice to the end is the rest
to_end : (n : ℕ) (bytes : List ℕ) → take (length bytes - n) (drop n bytes) ≡ drop n bytes
to_end n bytes = take_all (length bytes - n) (drop n bytes) (omega (arith, length-drop n bytes))

pub walk-init : goal.walk-init
walk-init g c =
    paging-begun c.args.rows.now.entries (parts_of c.args.dir.now) c.args.marker.now c.args.limit c.requires.keys c.requires.dir.clear c.in_ok-front.front.items (c.in_ok-front.ensures ∙ ap (λ key. key ++ 0 ∷ []) c.requires.dir.whole)
    c.range-rest.ensures.ordered c.new-out.result.items c.range-rest.result c.in_ok-start.start.items c.new-out.ensures.items (c.in_ok-start.ensures ∙ ap (λ front. front ++ cleared c.args.marker.now) c.deref.ensures.value) (c.range-rest.ensures.between (search rules))

pub returns-in-Outside : goal.returns-in-Outside
returns-in-Outside g c = paging-outside c.args.rows.now.entries (parts_of c.args.dir.now) c.args.marker.now c.args.limit c.requires.keys c.requires.dir.clear c.in_ok-front.front.items (c.in_ok-front.ensures ∙ ap (λ key. key ++ 0 ∷ []) c.requires.dir.whole) c.walk.out.items c.walk.rest c.walk.invariant c.in-Some.key.now c.in-Some.row.now c.next.new.self c.in-Some.ensures.steps (c.in-Outside.ensures ∙ ap (λ front. place_in front c.deref-in-walk-2.result.now) c.deref-in-walk.ensures.value ∙ ap (place_in c.in_ok-front.front.items) c.deref-in-walk-2.ensures.value)

pub walk-preserved-in-Continue-branch-3 : goal.walk-preserved-in-Continue-branch-3
walk-preserved-in-Continue-branch-3 g c =
    let len : c.len-in-Child.result ≡ length c.in_ok-front.front.items = omega (arith, c.len-in-Child.ensures, c.deref-in-walk.ensures.len, ap length c.deref-in-walk.ensures.value) in
    paging-child c.args.rows.now.entries (parts_of c.args.dir.now) c.args.marker.now c.args.limit c.requires.keys c.requires.dir.clear c.in_ok-front.front.items (c.in_ok-front.ensures ∙ ap (λ key. key ++ 0 ∷ []) c.requires.dir.whole) c.walk.out.items c.walk.rest c.walk.invariant c.in-Some.key.now c.in-Some.row.now c.next.new.self c.in-Some.ensures.steps (c.in-Child.ensures ∙ ap (λ front. place_in front c.deref-in-walk-2.result.now) c.deref-in-walk.ensures.value ∙ ap (place_in c.in_ok-front.front.items) c.deref-in-walk-2.ensures.value)
    (omega arith) c.push.new.self.items _ c.in_ok-push-in-Child.ensures.items
    (to_end c.len-in-Child.result c.deref-in-Child.result.now ∙ ap (drop c.len-in-Child.result) c.deref-in-Child.ensures.value ∙ ap (λ n. drop n c.in-Some.key.now.items) len)
    (c.entry.ensures ∙ ap (λ row. row.entry) c.deref-in-Child-2.ensures)

pub walk-smaller : goal.walk-smaller
walk-smaller g c = paging-fewer c.args.rows.now.entries (parts_of c.args.dir.now) c.args.marker.now c.args.limit c.requires.keys c.requires.dir.clear c.in_ok-front.front.items (c.in_ok-front.ensures ∙ ap (λ key. key ++ 0 ∷ []) c.requires.dir.whole) c.walk.out.items c.walk.rest c.walk.invariant c.in-Some.key.now c.in-Some.row.now c.next.new.self c.in-Some.ensures.steps c.in-Below.end (c.in-Below.ensures ∙ ap (λ front. place_in front c.deref-in-walk-2.result.now) c.deref-in-walk.ensures.value ∙ ap (place_in c.in_ok-front.front.items) c.deref-in-walk-2.ensures.value) c.in_ok-next-in-Below.next.items (c.in_ok-next-in-Below.ensures ∙ ap (λ key. take c.in-Below.end key ++ 1 ∷ []) c.deref-in-Below.ensures.value) c.range-rest-in-Below.result (c.range-rest-in-Below.ensures.between (search rules))

pub walk-preserved : goal.walk-preserved
walk-preserved g c = paging-below c.args.rows.now.entries (parts_of c.args.dir.now) c.args.marker.now c.args.limit c.requires.keys c.requires.dir.clear c.in_ok-front.front.items (c.in_ok-front.ensures ∙ ap (λ key. key ++ 0 ∷ []) c.requires.dir.whole) c.walk.out.items c.walk.rest c.walk.invariant c.in-Some.key.now c.in-Some.row.now c.next.new.self c.in-Some.ensures.steps c.in-Below.end (c.in-Below.ensures ∙ ap (λ front. place_in front c.deref-in-walk-2.result.now) c.deref-in-walk.ensures.value ∙ ap (place_in c.in_ok-front.front.items) c.deref-in-walk-2.ensures.value) c.in_ok-next-in-Below.next.items (c.in_ok-next-in-Below.ensures ∙ ap (λ key. take c.in-Below.end key ++ 1 ∷ []) c.deref-in-Below.ensures.value) c.range-rest-in-Below.result (c.range-rest-in-Below.ensures.between (search rules))
