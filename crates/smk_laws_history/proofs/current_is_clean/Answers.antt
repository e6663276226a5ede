use Rattle.smk_laws_history.proofs.CurrentAtExit.{current_at_exit_is_clean}
use Rattle.smk_laws_history.proofs.CurrentComplete.{seen_is_complete}
use Rattle.smk_laws_plan.proofs.CurrentFills.{bound_fills_from}
use Rattle.smk_pattern.proofs.Names.{numbered_all}
use Rattle.smk_laws_history.proofs.CurrentLaw.{current_means_clean, current_means_clean_in_worlds}
use Rattle.smk_laws_history.proofs.CurrentReads.{listings_are_meant, reads_are_clean, same_values}
use Rattle.smk_laws_history.proofs.current_is_clean.Goals as goal

pub returns : goal.returns
returns c =
    record {
      clean = current_means_clean;
      reads = reads_are_clean;
      listings = listings_are_meant;
      in_worlds = current_means_clean_in_worlds;
      at_exit = current_at_exit_is_clean;
      by_sources = same_values;
      complete = seen_is_complete;
      fills = bound_fills_from numbered_all;
    }
