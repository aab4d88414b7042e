-- The lines of a page, by the names of children and what stands there.
use Rattle.std.specs.Prelude.{ℕ, List}
use Rattle.mt_live.specs.LiveTexts.{page_line}
use Rattle.mt_types.specs.declared.body.Body.{Body}
use Rattle.mt_types.specs.declared.object.Entry.{Entry}
use Rattle.mt_answer.specs.Judging.{len_of}

-- the line of a child
abbrev pub line_of : List ℕ × Entry Body → List ℕ
line_of child = page_line len_of child.0 child.1
