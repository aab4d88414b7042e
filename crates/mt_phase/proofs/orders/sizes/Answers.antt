use Rattle.std.proofs.Common.{◌<◌, ◌≤◌, ◌∙◌, [], ap, map, length, get_or, refl, arith}
use Rattle.std.specs.List.{zip}
use Rattle.std.proofs.lemmas.List.{get_or_default, take_all}
use Rattle.std.proofs.lemmas.Slice.Zip.{length-zip}
use Rattle.mt_types.specs.declared.body.Body.{Body}
use Rattle.mt_phase.specs.Orders.{asset_size}
use Rattle.mt_phase.proofs.Texts.{sizes_more}
use Rattle.mt_phase.proofs.orders.sizes.Goals as goal

pub loop-k-preserved : goal.loop-k-preserved
loop-k-preserved c =
    let some_name : c.loop-k.k < length c.args.names.now = omega arith in
    let some_body : c.loop-k.k < length c.args.bodies.now = omega arith in
    let body : Body = get_or c.args.bodies.now c.loop-k.k (record { first = 0; len = 0; md5 = [] }) in
    c.in_ok-push.ensures.items
    ∙ sizes_more c.args.login.now c.args.names.now c.args.bodies.now c.loop-k.k c.loop-k.sizes.items c.in_ok-print.field-0 body.len c.index-names-k.result body some_name some_body
    c.loop-k.invariant c.in_ok-print.ensures.text refl c.index-names-k.is (get_or_default c.args.bodies.now c.loop-k.k (record { first = 0; len = 0; md5 = [] }) body some_body)

pub returns : goal.returns
returns c =
    let passed : length (zip c.args.names.now c.args.bodies.now) ≤ c.loop-k.k = omega (arith, length-zip c.args.names.now c.args.bodies.now) in
    c.loop-k.invariant ∙ ap (map (asset_size (λ b. b.len) c.args.login.now)) (take_all c.loop-k.k (zip c.args.names.now c.args.bodies.now) passed)
