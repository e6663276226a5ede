use Rattle.smk_laws_keys.proofs.Safe.{cleaning_is_safe, unlocking_is_safe}
use Rattle.smk_laws_keys.proofs.keys_are_safe.Goals as goal

pub returns-clause-unlocking : goal.returns-clause-unlocking
returns-clause-unlocking c = unlocking_is_safe

pub returns-clause-cleaning : goal.returns-clause-cleaning
returns-clause-cleaning c = cleaning_is_safe
