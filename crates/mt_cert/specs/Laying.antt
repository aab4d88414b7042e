-- How shares are laid out.
use Rattle.std.specs.Prelude.{◌≡◌, ℕ, List, length}
use Rattle.mt_model.specs.Types.{Body, Item}
use Rattle.mt_feeds.specs.FedJob.{all_shares, lists_of}
use Rattle.mt_cert.specs.declared.shares.Shares.{Shares}

-- the shares of so many reducers are those of these items
pub record AreShared (items : List (Item Body)) (reducers : ℕ) (s : Shares) : Type 0 where
  pub lists : lists_of s.lists ≡ all_shares items reducers
  pub count : s.count ≡ length items
