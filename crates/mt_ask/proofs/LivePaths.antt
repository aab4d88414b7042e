-- The text of a path below a job's `live`.
use Rattle.std.proofs.Common.{◌≡◌, ℕ, List, ◌∷◌, ◌++◌, codes, sym, ◌∙◌, append_assoc}
use Rattle.mt_ident.specs.Identifiers.{identifier_text}
use Rattle.mt_path.specs.AccountPath.{path_text, slash, slashed}
use Rattle.mt_ask.specs.Requests.{live_path}

pub live_text_is : (login : List ℕ) (number : ℕ) (names : List (List ℕ)) → path_text login (live_path number names) ≡ slash ∷ login ++ codes "/jobs/" ++ identifier_text 2 number ++ slashed (codes "live" ∷ names)
unfolding path_text
live_text_is login number names =
    let behind = slashed (codes "live" ∷ names) in
    let id = identifier_text 2 number in
    sym (append_assoc (slash ∷ login) (codes "/jobs/") (id ++ behind)) ∙ sym (append_assoc ((slash ∷ login) ++ codes "/jobs/") id behind)
