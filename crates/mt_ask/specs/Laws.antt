-- What words ask for is what the store is asked for.
use Rattle.std.specs.Prelude.{◌≡◌, ℕ, List, ◌∷◌, ◌++◌, Ok, Option, Some, IfSome, IsUtf8}
use Rattle.mt_path.specs.AccountPath.{AccountPath, IsLogin, IsPath}
use Rattle.mt_path.specs.Names.{path_of_target, question_mark}
use Rattle.mt_request.specs.Query.{marker_in, page_of, query_of}
use Rattle.mt_ask.specs.Requests.{page_query, target_text}

-- a target that was written is read as its path
abbrev pub TargetsAreRead : Type 0
TargetsAreRead = (login : List ℕ) (p : AccountPath) → IsLogin login → IsPath p → path_of_target login (target_text login p) ≡ Ok p

-- also before a query
abbrev pub QueriedTargetsAreRead : Type 0
QueriedTargetsAreRead = (login : List ℕ) (p : AccountPath) (query : List ℕ) → IsLogin login → IsPath p → path_of_target login (target_text login p ++ question_mark ∷ query) ≡ Ok p

-- the page that a target asks for is read as this one: at most 256 rows, from this name on
abbrev pub MarkersAreRead : Type 0
MarkersAreRead = (login : List ℕ) (p : AccountPath) (marker : Option (List ℕ)) → IfSome marker IsUtf8
    → page_of (query_of (target_text login p ++ page_query marker)) ≡ Some (record { marker = marker_in marker; limit = 256 })
