-- The clauses of a call speak of one log.
use Rattle.std.proofs.Common.{◌≡◌, List, [], ◌∷◌, ◌++◌, sym, ap, subst, ◌∙◌, Some, append_assoc, append-nil}
use Rattle.std.proofs.lemmas.Option.{same_Some}
use Rattle.smk_world.specs.declared.event.Event.{Event}
use Rattle.smk_world.specs.World.{World, after, run}
use Rattle.smk_world.specs.Runs.{Follows}
use Rattle.smk_drive_course.proofs.Fronts.{tail_same}
use Rattle.smk_cli_target.specs.Clauses.{HasLog, HasText}
use Rattle.smk_cli_target.specs.Ends.{Put}
use Rattle.smk_cli_target.specs.Headline.{ClausesAreMet, HasLed}

-- a world keeps the events that led to it
run_log : (w : World) (es : List Event) → (run w es).log ≡ w.log ++ es
run_log w [] = sym (append-nil w.log)
run_log w (e ∷ es) = run_log (after w e) es ∙ append_assoc w.log (e ∷ []) es

same_rest : (xs ys zs : List Event) → xs ++ ys ≡ xs ++ zs → ys ≡ zs
same_rest [] ys zs h = h
same_rest (x ∷ xs) ys zs h = same_rest xs ys zs (tail_same x x (xs ++ ys) (xs ++ zs) h)

one_log : (w : World) (xs ys : List Event) → run w xs ≡ run w ys → xs ≡ ys
one_log w xs ys h = same_rest w.log xs ys (sym (run_log w xs) ∙ (ap (λ (v : World). v.log) h ∙ run_log w ys))

pub clauses_are_met : ClausesAreMet
clauses_are_met act words outcome old new out_old out_new paths exit bytes forget called told told_bytes =
    let did = called.log exit told in let put = called.text exit told in
    led did.0 did.1 did.2.0 did.2.1 did.2.2 did.2.3 put.0 put.1 put.2.0 put.2.2 put.2.3
  where
    led :
        (w : World) → old.world ≡ Some w → (es : List Event) → Follows act w es → HasLog act words outcome old new out_old out_new w es → exit ≡ run w es →
        (v : World) → old.world ≡ Some v → (fs : List Event) → Put out_old out_new (HasText act words outcome v fs) → exit ≡ run v fs →
        HasLed act words outcome old new out_old out_new exit bytes
    led w is es follows has ends v is2 fs texts ends2 =
        let worlds = same_Some v w (sym is2 ∙ is) in
        let logs = one_log w fs es (sym (subst (λ u. exit ≡ run u fs) worlds ends2) ∙ ends) in
        let there = subst (λ u. Put out_old out_new (HasText act words outcome u fs)) worlds texts in
        let here = subst (λ l. Put out_old out_new (HasText act words outcome w l)) logs there bytes told_bytes in
        record {
          entry = w;
          log = es;
          text = here.2.0;
          before = here.0;
          begins = is;
          ends = ends;
          was_put = here.1;
          is_put = here.2.1;
          met = record { follows = follows; has_log = has; paths = paths; to_forget = forget };
          has_text = here.2.2;
        }
