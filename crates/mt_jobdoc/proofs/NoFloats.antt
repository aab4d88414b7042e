-- No number of a printed document is a float.
use Rattle.std.proofs.Common.{◌≡◌, ℕ, List, [], ◌∷◌, map, refl, false, Option, Some, None}
use Rattle.serde_json.specs.Written.{has_float, items_have_float}
use Rattle.serde_json.specs.View.{items_of}
use Rattle.mt_path.specs.AccountPath.{AccountPath}
use Rattle.mt_types.specs.declared.document.PhaseKind.{PhaseKind}
use Rattle.mt_types.specs.declared.document.PhaseKind.TheVariants.{Map, Reduce}
use Rattle.mt_types.specs.declared.document.Phase.{Phase}
use Rattle.mt_types.specs.declared.document.JobDocument.{JobDocument}
use Rattle.mt_jobdoc.specs.Printed.{phase_data, phases_data, assets_data}

assets-plain : (login : List ℕ) (assets : List AccountPath) → has_float (assets_data login assets) ≡ false
assets-plain login [] = refl
assets-plain login (p ∷ ps) = assets-plain login ps

by_kind : (login : List ℕ) (kind : PhaseKind) (exec : List ℕ) (init : Option (List ℕ)) (assets : List AccountPath) → has_float (assets_data login assets) ≡ false
    → has_float (phase_data login (record { kind = kind; exec = exec; init = init; assets = assets })) ≡ false
unfolding phase_data
by_kind login Map exec None assets plain = rw plain refl
by_kind login Map exec (Some init) assets plain = rw plain refl
by_kind login (Reduce count) exec None assets plain = rw plain refl
by_kind login (Reduce count) exec (Some init) assets plain = rw plain refl

phase-plain : (login : List ℕ) (p : Phase) → has_float (phase_data login p) ≡ false
phase-plain login p = by_kind login p.kind p.exec p.init p.assets (assets-plain login p.assets)

phases-plain : (login : List ℕ) (ps : List Phase) → items_have_float (items_of (map (phase_data login) ps)) ≡ false
phases-plain login [] = refl
phases-plain login (p ∷ ps) = rw (phase-plain login p) (phases-plain login ps)

pub document-plain : (login : List ℕ) (d : JobDocument) → has_float (phases_data login d) ≡ false
unfolding phases_data
document-plain login d = phases-plain login d.phases
