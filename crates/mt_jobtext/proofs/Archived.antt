-- Archives of a history, and of its fronts and rests.
use Rattle.std.proofs.Common.{[], ◌∷◌}
use Rattle.mt_model.specs.CommandStep.{replay, step}
use Rattle.mt_jobtext.specs.Archives.{ArchivesFrom, ArchivesGrow, ArchivesOfFronts, ArchivesOfRests}

pub archives_grow : ArchivesGrow
unfolding ArchivesFrom replay
archives_grow login s [] cs has more = more
archives_grow login s (d ∷ h) cs has more = (has.0, archives_grow login (step s d) h cs has.1 more)

pub archives_front : ArchivesOfFronts
unfolding ArchivesFrom
archives_front login s [] cs has = tt
archives_front login s (d ∷ h) cs has = (has.0, archives_front login (step s d) h cs has.1)

pub archives_rest : ArchivesOfRests
unfolding ArchivesFrom replay
archives_rest login s [] cs has = has
archives_rest login s (d ∷ h) cs has = archives_rest login (step s d) h cs has.1
