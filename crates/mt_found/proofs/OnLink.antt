-- A search over a link to a store.
use Rattle.std.proofs.Common.{◌≡◌, ℕ, List, subst}
use Rattle.mt_edge.specs.Stream.{GotMore}
use Rattle.mt_found.specs.Found.{IsStoreAnswer, lines_of, rows_below}
use Rattle.mt_found.specs.Laws.{FindOverTheStore}
use Rattle.mt_found.specs.OnLink.{FindOnALink}
use Rattle.mt_found.proofs.Told.{wrote_all}

pub on_a_link : FindOverTheStore → FindOnALink
on_a_link over s w p a b search run all =
    let wrote = wrote_all (IsStoreAnswer s w) w a b run all in
    subst (λ (t : List ℕ). GotMore a.written t b.written) (over s w p run.replies wrote.text search wrote.plays) wrote.written
