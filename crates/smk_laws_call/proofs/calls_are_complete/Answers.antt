use Rattle.smk_laws_call.proofs.Calling.{call_is_complete, listing_is_complete}
use Rattle.smk_laws_call.proofs.calls_are_complete.Goals as goal

pub returns : goal.returns
returns c = record { call = call_is_complete; listing = listing_is_complete }
