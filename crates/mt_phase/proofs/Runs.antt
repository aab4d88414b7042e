-- An order over the bytes that come with it is the run of its task.
use Rattle.std.proofs.Common.{◌≡◌, ℕ, ◌+◌, List, [], ◌∷◌, ◌++◌, length, map, take, drop, refl, sym, ap, ◌∙◌, length-append}
use Rattle.std.specs.List.{AllByRecursion, flat_map, slice_get, sum_by, zip}
use Rattle.std.specs.Option.{unwrap_or}
use Rattle.std.proofs.Math.Seq.{drop-append_seam}
use Rattle.std.proofs.lemmas.List.{take_at}
use Rattle.std.proofs.lemmas.List.Sums.{sum_by-cons}
use Rattle.mt_path.specs.AccountPath.{AccountPath, path_text}
use Rattle.mt_types.specs.declared.body.Body.{Body}
use Rattle.mt_types.specs.declared.job.Item.{Item}
use Rattle.mt_types.specs.declared.task.Asset.{Asset}
use Rattle.mt_model.specs.Feed.{feed}
use Rattle.mt_model.specs.Tasks.{assets_of, input_of, items_read, run_in}
use Rattle.mt_spawn.specs.Orders.{cut_assets}
use Rattle.mt_spawn.specs.declared.task.AssetSize.{AssetSize}
use Rattle.mt_phase.specs.Laws.{KeepsSize, OrdersAreRuns}
use Rattle.mt_phase.specs.Orders.{asset_size, asset_sizes, input_size}
use Rattle.mt_phase.proofs.Held.{all_at, all_zipped, feed_held, read_held}

module _ {B : Type 0} (size : B → ℕ) (content : B → List ℕ) where
  abbrev Keeps : B → Type 0
  Keeps b = length (content b) ≡ size b

  -- an asset with its bytes
  abbrev asset_read : List ℕ → AccountPath × B → Asset
  asset_read login a = record { name = path_text login a.0; bytes = content a.1 }

  items_size : (xs : List (Item B)) → AllByRecursion (λ i. Keeps i.body) xs → length (flat_map (λ i. content i.body) xs) ≡ sum_by (λ i. size i.body) xs
  items_size [] all = refl
  items_size (x ∷ xs) all =
      length-append (content x.body) (flat_map (λ i. content i.body) xs)
      ∙ (λ k. all.0 k + items_size xs all.1 k)
      ∙ sym (sum_by-cons (λ i. size i.body) x xs)

  behind : (xs ys : List ℕ) (n : ℕ) → length xs ≡ n → drop n (xs ++ ys) ≡ ys
  behind xs ys n is = ap (λ k. drop k (xs ++ ys)) (sym is) ∙ drop-append_seam xs ys

  -- assets are cut out of their bytes by their sizes
  assets_cut : (login : List ℕ) (pairs : List (AccountPath × B)) → AllByRecursion (λ a. Keeps a.1) pairs
      → cut_assets (map (asset_size size login) pairs) (flat_map (λ a. a.bytes) (map (asset_read login) pairs)) ≡ map (asset_read login) pairs
  assets_cut login [] all = refl
  assets_cut login (a ∷ pairs) all =
      let rest : List ℕ = flat_map (λ b. b.bytes) (map (asset_read login) pairs) in
      let first : take (size a.1) (content a.1 ++ rest) ≡ content a.1 = take_at (content a.1) rest (size a.1) all.0 in
      let after : drop (size a.1) (content a.1 ++ rest) ≡ rest = behind (content a.1) rest (size a.1) all.0 in
      (λ k. record { name = path_text login a.0; bytes = first k } ∷ cut_assets (map (asset_size size login) pairs) (after k))
      ∙ ap (λ (more : List Asset). asset_read login a ∷ more) (assets_cut login pairs all.1)

pub orders_run : OrdersAreRuns
orders_run content login job phase place p held =
    let bodies : List Body = unwrap_or (slice_get job.assets phase) [] in
    let sizes : List AssetSize = asset_sizes (λ b. b.len) login p.assets bodies in
    let count : ℕ = input_size (λ b. b.len) p.kind (feed job phase) place in
    let first : List ℕ = input_of content p.kind (feed job phase) place in
    let after : List ℕ = flat_map (λ a. a.bytes) (assets_of content login p bodies) in
    let size : length first ≡ count =
    items_size (λ b. b.len) content (items_read p.kind (feed job phase) place)
    (read_held (KeepsSize content) p.kind (feed job phase) place (feed_held (KeepsSize content) job phase held)) in
    let assets : cut_assets sizes (drop count (first ++ after)) ≡ assets_of content login p bodies =
    ap (cut_assets sizes) (behind (λ b. b.len) content first after count size)
    ∙ assets_cut (λ b. b.len) content login (zip p.assets bodies) (all_zipped (KeepsSize content) p.assets bodies (all_at (KeepsSize content) job.assets phase held.assets)) in
    record {
      run = ap (λ (all : List Asset). record (run_in content login job phase place p) { assets = all }) assets;
      input = take_at first after count size;
    }
