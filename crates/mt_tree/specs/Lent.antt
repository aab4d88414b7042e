-- What a page lends.
use Rattle.std.specs.Prelude.{ℕ, List}
use Rattle.mt_types.specs.declared.object.Entry.{Entry}
use Rattle.mt_tree.specs.declared.listing.Listed.{Listed}

-- the name of a child, and what stands there
abbrev pub lent : {B : Type 0} → Listed B → List ℕ × Entry B
lent listed = (listed.name.now, listed.entry.now)
