use Rattle.smk_laws_turns.proofs.Places.{differs_by_places, looks_agree, same_is_seen}
use Rattle.smk_laws_turns.proofs.places_tell.Goals as goal

pub returns-clause-seen : goal.returns-clause-seen
returns-clause-seen c = same_is_seen

pub returns-clause-differs : goal.returns-clause-differs
returns-clause-differs c = differs_by_places

pub returns-clause-looks : goal.returns-clause-looks
returns-clause-looks c = looks_agree
