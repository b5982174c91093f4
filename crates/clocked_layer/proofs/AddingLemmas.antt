-- Events that are added moment by moment are the block's events, which stand replica by replica.
use Rattle.std.specs.List.{flat_map, range_with_len}
use Rattle.std.proofs.Common.{◌≡◌, ℕ, Bool, true, false, cond, List, [], ◌∷◌, ◌++◌, refl, sym, ap, ◌∙◌}
use Rattle.clock_model.specs.Order.{begin_of, send_of, sync_of, vote_of}
use Rattle.clocked_layer.specs.Events.{block_events, own_event, own_events}
use Rattle.clocked_layer.specs.Opening.{deliveries, deliveries_to, moment_at, moment_events}
use Rattle.clocked_layer.specs.declared.ticks.Moment.TheVariants.{Begins, Sends, Syncs, Votes}
use Rattle.clocked_layer.proofs.OpeningLemmas.{in_turn_from-append}
use Rattle.event_queue.proofs.TurnLaws.{either_first}
use Rattle.event_queue.specs.Agenda.{in_turn_from}
use Rattle.event_queue.specs.declared.event.Event.{Event}
use Rattle.event_queue.specs.declared.event.EventKind.TheVariants.{Begin, Send, Sync, Vote}
use Rattle.rcp_model.specs.FrameRows.{FrameRows}
use Rattle.rcp_model.specs.Messages.{is_up}
use Rattle.rcp_model.specs.System.{SystemState}
use Rattle.rcp_model.specs.declared.plan.PlanParts.{PlanParts}

-- four lots, of which those amid may change places
four_lots : (done a b c d : List Event)
    → in_turn_from done ((a ++ b) ++ (c ++ d))
    ≡ in_turn_from (in_turn_from (in_turn_from (in_turn_from done a) b) c) d
four_lots done a b c d =
    in_turn_from-append done (a ++ b) (c ++ d)
    ∙ in_turn_from-append (in_turn_from done (a ++ b)) c d
    ∙ ap (λ x. in_turn_from (in_turn_from x c) d) (in_turn_from-append done a b)

crossed : (done a b c d : List Event)
    → in_turn_from done ((a ++ b) ++ (c ++ d)) ≡ in_turn_from done ((a ++ c) ++ (b ++ d))
crossed done a b c d =
    four_lots done a b c d
    ∙ ap (λ x. in_turn_from x d) (either_first (in_turn_from done a) b c)
    ∙ sym (four_lots done a c b d)

-- what has two parts at each number may be added part by part
by_parts : (f g : ℕ → List Event) (done : List Event) (ns : List ℕ)
    → in_turn_from done (flat_map (λ n. f n ++ g n) ns)
    ≡ in_turn_from done (flat_map f ns ++ flat_map g ns)
by_parts f g done [] = refl
by_parts f g done (n ∷ ns) =
    in_turn_from-append done (f n ++ g n) (flat_map (λ n. f n ++ g n) ns)
    ∙ by_parts f g (in_turn_from done (f n ++ g n)) ns
    ∙ sym (in_turn_from-append done (f n ++ g n) (flat_map f ns ++ flat_map g ns))
    ∙ crossed done (f n) (g n) (flat_map f ns) (flat_map g ns)

two_parts : (f g : ℕ → List Event) (done : List Event) (ns : List ℕ)
    → in_turn_from done (flat_map (λ n. f n ++ g n) ns)
    ≡ in_turn_from (in_turn_from done (flat_map f ns)) (flat_map g ns)
two_parts f g done ns =
    by_parts f g done ns ∙ in_turn_from-append done (flat_map f ns) (flat_map g ns)

module _ (plan : PlanParts) (state : SystemState) (rows : FrameRows) where
  abbrev begins : ℕ → List Event
  begins = moment_at plan state.done rows Begins

  abbrev sends : ℕ → List Event
  sends = moment_at plan state.done rows Sends

  abbrev votes : ℕ → List Event
  votes = moment_at plan state.done rows Votes

  abbrev syncs : ℕ → List Event
  syncs = moment_at plan state.done rows Syncs

  four_moments : (q : ℕ)
      → own_events plan state.done rows q
      ≡ begins q ++ (sends q ++ (votes q ++ syncs q))
  four_moments q = go (is_up plan rows q)
    where
      b : Event
      b = own_event Begin state.done q (begin_of plan state.done rows q)

      s : Event
      s = own_event Send state.done q (send_of plan state.done rows q)

      v : Event
      v = own_event Vote state.done q (vote_of plan state.done rows q)

      y : Event
      y = own_event Sync state.done q (sync_of plan state.done rows q)

      go : (t : Bool)
          → cond t (b ∷ s ∷ v ∷ y ∷ []) []
          ≡ cond t (b ∷ []) []
          ++ (cond t (s ∷ []) [] ++ (cond t (v ∷ []) [] ++ cond t (y ∷ []) []))
      go true = refl
      go false = refl

  own_by_moments : (done : List Event) (ns : List ℕ)
      → in_turn_from done (flat_map (own_events plan state.done rows) ns)
      ≡ in_turn_from (in_turn_from (in_turn_from (in_turn_from done
      (flat_map begins ns)) (flat_map sends ns)) (flat_map votes ns)) (flat_map syncs ns)
  own_by_moments done ns =
      ap (λ (f : ℕ → List Event). in_turn_from done (flat_map f ns)) (λ i q. four_moments q i)
      ∙ two_parts begins (λ q. sends q ++ (votes q ++ syncs q)) done ns
      ∙ two_parts sends (λ q. votes q ++ syncs q) (in_turn_from done (flat_map begins ns)) ns
      ∙ two_parts votes syncs
      (in_turn_from (in_turn_from done (flat_map begins ns)) (flat_map sends ns)) ns

  -- deliveries may be added ahead of votes and syncs
  by_moments : (done : List Event)
      → in_turn_from done (block_events plan state rows)
      ≡ in_turn_from (in_turn_from (in_turn_from (in_turn_from (in_turn_from done
      (moment_events plan state.done rows Begins))
      (moment_events plan state.done rows Sends))
      (deliveries plan state rows))
      (moment_events plan state.done rows Votes))
      (moment_events plan state.done rows Syncs)
  by_moments done =
      two_parts (own_events plan state.done rows) (deliveries_to plan state rows) done ns
      ∙ ap (λ x. in_turn_from x come) (own_by_moments done ns)
      ∙ either_first (in_turn_from sent (flat_map votes ns)) (flat_map syncs ns) come
      ∙ ap (λ x. in_turn_from x (flat_map syncs ns)) (either_first sent (flat_map votes ns) come)
    where
      ns : List ℕ
      ns = range_with_len 0 plan.replicas

      come : List Event
      come = deliveries plan state rows

      sent : List Event
      sent = in_turn_from (in_turn_from done (flat_map begins ns)) (flat_map sends ns)

pub all_added : (plan : PlanParts) (state : SystemState) (rows : FrameRows) (frame : ℕ)
    (done a b c d e : List Event) → state.done ≡ frame
    → a ≡ in_turn_from done (moment_events plan frame rows Begins)
    → b ≡ in_turn_from a (moment_events plan frame rows Sends)
    → c ≡ in_turn_from b (deliveries plan state rows)
    → d ≡ in_turn_from c (moment_events plan frame rows Votes)
    → e ≡ in_turn_from d (moment_events plan frame rows Syncs)
    → e ≡ in_turn_from done (block_events plan state rows)
all_added plan state rows frame done a b c d e at ia ib ic id ie =
    ie
    ∙ ap (λ x. in_turn_from x (moment_events plan frame rows Syncs))
    (id ∙ ap (λ x. in_turn_from x (moment_events plan frame rows Votes))
    (ic ∙ ap (λ x. in_turn_from x (deliveries plan state rows))
    (ib ∙ ap (λ x. in_turn_from x (moment_events plan frame rows Sends)) ia)))
    ∙ ap (λ n. in_turn_from (in_turn_from (in_turn_from (in_turn_from (in_turn_from done
    (moment_events plan n rows Begins)) (moment_events plan n rows Sends))
    (deliveries plan state rows)) (moment_events plan n rows Votes))
    (moment_events plan n rows Syncs)) (sym at)
    ∙ sym (by_moments plan state rows done)
