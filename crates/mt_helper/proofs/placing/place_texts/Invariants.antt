-- the places so far, and those of the texts that are left
use Rattle.std.proofs.Common.{◌≡◌, drop}
use Rattle.mt_helper.specs.Words.{place_texts}
use Rattle.mt_helper.proofs.Reading.{behind}
use Rattle.mt_helper.proofs.placing.place_texts.Given as goal

abbrev pub invariant-loop-text : goal.invariant-loop-text
invariant-loop-text l = behind l.places.items (place_texts l.login (drop l.text-index l.texts)) ≡ place_texts l.login l.texts
