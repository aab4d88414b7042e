use Rattle.std.proofs.Common.{◌≡◌, List, ℕ, ap, ◌∙◌}
use Rattle.mt_path.specs.AccountPath.{IsPath}
use Rattle.mt_path.specs.Keys.{IsPathKey, key_bytes}
use Rattle.mt_path.specs.declared.area.Area.TheVariants.{Jobs}
use Rattle.mt_path.proofs.Held.{IsPathKey-from_parts, path_at-is}
use Rattle.mt_model.specs.Names.{anonymous_place}
use Rattle.mt_model.specs.Resolve.{Committing}
use Rattle.mt_model.proofs.LawfulNames.{output_is_path}
use Rattle.mt_resolve.proofs.names.anonymous_place.Goals as goal

-- what was spelled is the key of the place
spelled : (job phase number : ℕ) (root now : List ℕ) (key : List ℕ) → key ≡ key_bytes (anonymous_place job now phase number).parts → now ≡ root → key ≡ key_bytes (anonymous_place job root phase number).parts
spelled job phase number root now key is same = is ∙ ap (λ r. key_bytes (anonymous_place job r phase number).parts) same

held : (job phase number : ℕ) (root key : List ℕ) → IsPath (anonymous_place job root phase number) → key ≡ key_bytes (anonymous_place job root phase number).parts → IsPathKey Jobs key
held job phase number root key is e = IsPathKey-from_parts Jobs (anonymous_place job root phase number).parts key is e

pub from_key-requires-clause-path : goal.from_key-requires-clause-path
from_key-requires-clause-path c =
    let fine = c.c.invariant in
    (held c.c.inside.job c.c.inside.phase c.args.number c.c.inside.root c.in_ok-key.key.items (output_is_path c.c.inside.root fine.root fine.short c.c.inside.phase fine.phase c.args.number c.c.inside.job)
    (spelled c.c.inside.job c.c.inside.phase c.args.number c.c.inside.root c.as_bytes.result.now c.in_ok-key.key.items c.in_ok-key.ensures c.as_bytes.ensures)).path

pub from_key-requires-clause-key : goal.from_key-requires-clause-key
from_key-requires-clause-key c =
    let fine = c.c.invariant in
    (held c.c.inside.job c.c.inside.phase c.args.number c.c.inside.root c.in_ok-key.key.items (output_is_path c.c.inside.root fine.root fine.short c.c.inside.phase fine.phase c.args.number c.c.inside.job)
    (spelled c.c.inside.job c.c.inside.phase c.args.number c.c.inside.root c.as_bytes.result.now c.in_ok-key.key.items c.in_ok-key.ensures c.as_bytes.ensures)).whole

pub returns : goal.returns
returns c =
    let fine = c.c.invariant in
    c.from_key.ensures
    ∙ path_at-is Jobs (anonymous_place c.c.inside.job c.c.inside.root c.c.inside.phase c.args.number).parts c.in_ok-key.key.items (output_is_path c.c.inside.root fine.root fine.short c.c.inside.phase fine.phase c.args.number c.c.inside.job)
    (spelled c.c.inside.job c.c.inside.phase c.args.number c.c.inside.root c.as_bytes.result.now c.in_ok-key.key.items c.in_ok-key.ensures c.as_bytes.ensures)
    ∙ ap (λ (v : Committing). anonymous_place v.job v.root v.phase c.args.number) c.c.view_is
