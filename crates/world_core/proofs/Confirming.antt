-- CONFIRM LINK and its reply: what is known of the link, and of the socket of first contact, as a side takes one of them.
use Rattle.std.proofs.Common.{◌≡◌, ◌∙◌, ℕ, ◌==◌, ◌&&◌, Bool, true, false, if◌then◌else◌, List, [], ◌∷◌, ◌++◌, reverse, filter_map, refl, ap, sym, true≢false}
use Rattle.std.specs.Prelude.{Some, None, option_map, option_and_then, option_to_list}
use Rattle.std.specs.Option.{option_or}
use Rattle.smc_num.specs.declared.Side.{Side}
use Rattle.smc_num.specs.declared.Side.TheVariants.{A, B}
use Rattle.smc_num.specs.declared.LinkPhase.TheVariants.{Live as LiveLink}
use Rattle.smc_num.specs.Names.{other, same_link}
use Rattle.smc_num.specs.Places.{rmb_at}
use Rattle.llc_wire.specs.declared.LlcMessage.{LlcMessage}
use Rattle.clc_wire.specs.declared.offer.Offer.{Offer}
use Rattle.element_ledger.specs.Lendings.{Row}
use Rattle.pipe_model.specs.declared.setup.Setup.{Setup}
use Rattle.pipe_model.specs.declared.entry.Entry.{Entry}
use Rattle.pipe_model.specs.declared.flow.FlowStep.TheVariants.{Live}
use Rattle.pipe_model.specs.History.{offered}
use Rattle.pipe_model.specs.Fabric.{Act, fabric, peer, act_in, group_of, table_of, loses_group_with}
use Rattle.pipe_model.specs.Pipe.{Item, Fate, GroupEnd, Up}
use Rattle.pipe_model.specs.Connections.{EndState, WaitsLink, IsUp, is_up, early_state, end_state, after_event, after_loss, up_by, comes_up, confirmed_by, is_first_on, ups, fates, fate_of, group_end, group_on, deeds, items}
use Rattle.side_core.specs.Desk.{goes_live}
use Rattle.world_core.specs.OneLink.{the_link, the_key, the_keys, Stage, Asking, LiveAtA, LiveAtBoth, fabric_at, groups_at, keys_at, book_at}
use Rattle.world_core.specs.Sockets.{Socket, Unopened, Fallen, Proposed, Refused, AwaitsLink, FirstUpAtA, is_unoffered, first_step, offered_at, on_link, StandsAt, IsWorld}
use Rattle.world_core.proofs.SameManagers.{desk_from}
use Rattle.world_core.proofs.QuietEntries.{same-group}
use Rattle.world_core.proofs.EntryItems.{below, items-are}
use Rattle.world_core.proofs.LinkFacts.{then-it}

-- which side takes which message: A the CONFIRM LINK, B the reply
pub data Confirming : Side → ℕ → Stage → Stage → Bool → Type 0 where
  at_a : (t qp rq : ℕ) → Confirming A t (Asking t qp) (LiveAtA t rq) true
  at_b : (t qp : ℕ) → Confirming B t (LiveAtA t qp) (LiveAtBoth t) false

-- what an entry is in which a side does so
pub record IsConfirming (payload : List ℕ) (x : Side) (reply : Bool) (e : Entry) (past : List Entry) : Type 0 where
  pub message : LlcMessage
  pub act : act_in x e past ≡ Some (record { link = the_link; message = message; step = Live reply true })
  pub idle : act_in (other x) e past ≡ None
  pub no_deeds : (s : ℕ) → deeds payload s e.event e.reply past ≡ []
  pub no_ups : (y : Side) (s : ℕ) → up_by y s e.event e.reply past ≡ None
  pub early : (y : Side) (s : ℕ) (state : EndState) → after_event y s e.event e.reply state ≡ state

-- the end that waits for the link
pub record IsWaiting (setup : Setup) (x : Side) (t : ℕ) (past : List Entry) : Type 0 where
  pub offer : Offer
  pub first : Offer
  pub own : Offer
  pub down : is_up x t past ≡ false
  pub state : end_state x t past ≡ WaitsLink
  pub theirs : offered (other x) t past ≡ on_link offer
  pub of_b : offered B t past ≡ on_link first
  pub ours : offered x t past ≡ on_link own
  pub is_first : first.first ≡ true
  pub rmb : rmb_at offer.address ≡ 1
  pub others : (s : ℕ) → (s == t) ≡ false → (y : Side) → offered y s past ≡ None

unoffered : (k : Socket) (y : Side) → is_unoffered k ≡ true → offered_at k y ≡ None
unoffered Unopened y e = refl
unoffered Fallen y e = refl
unoffered Proposed y e = refl
unoffered (Refused r) y e = refl
unoffered _ y e = absurd (true≢false (sym e))

module _ (setup : Setup) (past : List Entry) where
  others-none : (s t : ℕ) (b : Bool) (k : Socket) → StandsAt setup k s past → (s == t) ≡ false → (if s == t then b else is_unoffered k) ≡ true → (y : Side) → offered y s past ≡ None
  others-none s t b k at n suits y = at.offer y ∙ unoffered k y (sym (ap (λ c. if c then b else is_unoffered k) n) ∙ suits)

  awaits : (t : ℕ) (k : Socket) → (first_step k == 3) ≡ true → StandsAt setup k t past → ((s : ℕ) → (s == t) ≡ false → (y : Side) → offered y s past ≡ None) → IsWaiting setup A t past
  awaits t (AwaitsLink o p) e at others = let f = at.offers B (record { link = the_link; offer = o }) refl in record {
    offer = o;
    first = o;
    own = p;
    down = at.up A;
    state = ap (λ b. if b then IsUp else early_state A t past) (at.up A) ∙ at.early A;
    theirs = at.offer B;
    of_b = at.offer B;
    ours = at.offer A;
    is_first = f.first_is;
    rmb = f.rmb;
    others = others;
  }
  awaits t _ e at others = absurd (true≢false (sym e))

  awaits-b : (t : ℕ) (k : Socket) → (first_step k == 4) ≡ true → StandsAt setup k t past → ((s : ℕ) → (s == t) ≡ false → (y : Side) → offered y s past ≡ None) → IsWaiting setup B t past
  awaits-b t (FirstUpAtA o p) e at others =
      let f = at.offers B (record { link = the_link; offer = o }) refl in
      let g = at.offers A (record { link = the_link; offer = p }) refl in
      record {
        offer = p;
        first = o;
        own = o;
        down = at.up B;
        state = ap (λ b. if b then IsUp else early_state B t past) (at.up B) ∙ at.early B;
        theirs = at.offer A;
        of_b = at.offer B;
        ours = at.offer B;
        is_first = f.first_is;
        rmb = g.rmb;
        others = others;
      }
  awaits-b t _ e at others = absurd (true≢false (sym e))

  pub is-waiting : {x : Side} {t : ℕ} {from to : Stage} {reply : Bool} → Confirming x t from to reply → IsWorld setup from past → IsWaiting setup x t past
  is-waiting (at_a t qp rq) w =
      let h = w.sockets t in
      awaits t h.at (then-it t (first_step h.at == 3) (is_unoffered h.at) h.suits_is) h.stands
      (λ s n. let g = w.sockets s in others-none s t (first_step g.at == 3) g.at g.stands n g.suits_is)
  is-waiting (at_b t qp) w =
      let h = w.sockets t in
      awaits-b t h.at (then-it t (first_step h.at == 4) (is_unoffered h.at) h.suits_is) h.stands
      (λ s n. let g = w.sockets s in others-none s t (first_step g.at == 4) g.at g.stands n g.suits_is)

-- the desks: the link of the taker goes live, and the other side's stays
pub desk-lives : {x : Side} {t : ℕ} {from to : Stage} {reply : Bool} → Confirming x t from to reply → (setup : Setup) (pairs : List ℕ) (number : ℕ) (rows : List Row) (first : ℕ)
    → desk_from setup x (fabric_at to) (groups_at to) pairs number (keys_at x to) (book_at x to) rows first ≡ goes_live 1 (desk_from setup x (fabric_at from) (groups_at from) pairs number (keys_at x from) (book_at x from) rows first)
desk-lives (at_a t qp rq) setup pairs number rows first = refl
desk-lives (at_b t qp) setup pairs number rows first = refl

pub desk-other : {x : Side} {t : ℕ} {from to : Stage} {reply : Bool} → Confirming x t from to reply → (setup : Setup) (pairs : List ℕ) (number : ℕ) (rows : List Row) (first : ℕ)
    → desk_from setup (other x) (fabric_at to) (groups_at to) pairs number (keys_at (other x) to) (book_at (other x) to) rows first ≡ desk_from setup (other x) (fabric_at from) (groups_at from) pairs number (keys_at (other x) from) (book_at (other x) from) rows first
desk-other (at_a t qp rq) setup pairs number rows first = refl
desk-other (at_b t qp) setup pairs number rows first = refl

-- the keys that both know
pub keys-known : {x : Side} {t : ℕ} {from to : Stage} {reply : Bool} → Confirming x t from to reply → (keys_at (other x) from ≡ the_keys (other x)) × ((keys_at (other x) to ≡ the_keys (other x)) × (book_at x from ≡ the_key (other x) ∷ []))
keys-known (at_a t qp rq) = (refl, (refl, refl))
keys-known (at_b t qp) = (refl, (refl, refl))

pub keys-same : {x : Side} {t : ℕ} {from to : Stage} {reply : Bool} → Confirming x t from to reply → (y : Side) → keys_at y to ≡ keys_at y from
keys-same (at_a t qp rq) A = refl
keys-same (at_a t qp rq) B = refl
keys-same (at_b t qp) A = refl
keys-same (at_b t qp) B = refl

-- the fates: the link is live at the taker's side now
fate-own : {x : Side} {t : ℕ} {from to : Stage} {reply : Bool} → Confirming x t from to reply → filter_map (fate_of x 1 (peer x (fabric_at from)).table) (peer x (fabric_at to)).table ≡ Fate x the_link LiveLink ∷ []
fate-own (at_a t qp rq) = refl
fate-own (at_b t qp) = refl

fate-none : {x : Side} {t : ℕ} {from to : Stage} {reply : Bool} → Confirming x t from to reply → (y : Side) → filter_map (fate_of y 0 (peer y (fabric_at from)).table) (peer y (fabric_at to)).table ≡ []
fate-none (at_a t qp rq) A = refl
fate-none (at_a t qp rq) B = refl
fate-none (at_b t qp) A = refl
fate-none (at_b t qp) B = refl

fate-other : {x : Side} {t : ℕ} {from to : Stage} {reply : Bool} → Confirming x t from to reply → filter_map (fate_of (other x) 1 (peer (other x) (fabric_at from)).table) (peer (other x) (fabric_at to)).table ≡ []
fate-other (at_a t qp rq) = refl
fate-other (at_b t qp) = refl

group-same : {x : Side} {t : ℕ} {from to : Stage} {reply : Bool} → Confirming x t from to reply → (y : Side) → (peer y (fabric_at to)).group ≡ (peer y (fabric_at from)).group
group-same (at_a t qp rq) A = refl
group-same (at_a t qp rq) B = refl
group-same (at_b t qp) A = refl
group-same (at_b t qp) B = refl

-- what stands below the deeds, with the taker's side first or second
abbrev both-sides : Side → List Item → List Item → List Item
both-sides A own theirs = reverse (own ++ theirs)
both-sides B own theirs = reverse (theirs ++ own)

below-of : (x : Side) (g s : ℕ) (e : Entry) (past : List Entry)
    → below g s e past ≡ both-sides x (ups x s e past) (ups (other x) s e past) ++ both-sides x (group_end x g e past) (group_end (other x) g e past) ++ both-sides x (fates x g e past) (fates (other x) g e past)
below-of A g s e past = refl
below-of B g s e past = refl

module _ {x : Side} {t : ℕ} {from to : Stage} {reply : Bool} (c : Confirming x t from to reply) (setup : Setup) (payload : List ℕ) (e : Entry) (past : List Entry)
    (was : fabric past ≡ fabric_at from) (now : fabric (e ∷ past) ≡ fabric_at to) (i : IsConfirming payload x reply e past) (w : IsWaiting setup x t past) where
  pub group-stays : (y : Side) → group_of y (e ∷ past) ≡ group_of y past
  group-stays y = ap (λ f. (peer y f).group) now ∙ (group-same c y ∙ sym (ap (λ f. (peer y f).group) was))

  no-loss : (y : Side) (g : ℕ) → loses_group_with y g e past ≡ false
  no-loss y g = same-group g (group_of y past) (group_of y (e ∷ past)) (group-stays y)

  no-end : (y : Side) (g : ℕ) → group_end y g e past ≡ []
  no-end y g = ap (λ b. if b then GroupEnd y ∷ [] else []) (no-loss y g)

  -- the end of the socket of first contact comes up
  pub up-now : comes_up x t e past ≡ Some the_link
  up-now =
      ap (λ o. option_or o (option_and_then (λ (act : Act). confirmed_by (offered B t past) act.link act.step) (act_in x e past))) (i.no_ups x t)
      ∙ (ap (λ a. option_and_then (λ (act : Act). confirmed_by (offered B t past) act.link act.step) a) i.act
      ∙ (ap (λ o. if is_first_on the_link o then Some the_link else None) w.of_b ∙ ap (λ b. if b && same_link the_link the_link then Some the_link else None) w.is_first))

  -- and no other
  pub no-up-else : (s : ℕ) → (s == t) ≡ false → comes_up x s e past ≡ None
  no-up-else s n =
      ap (λ o. option_or o (option_and_then (λ (act : Act). confirmed_by (offered B s past) act.link act.step) (act_in x e past))) (i.no_ups x s)
      ∙ (ap (λ a. option_and_then (λ (act : Act). confirmed_by (offered B s past) act.link act.step) a) i.act
      ∙ ap (λ o. if is_first_on the_link o then Some the_link else None) (w.others s n B))

  pub no-up-other : (s : ℕ) → comes_up (other x) s e past ≡ None
  no-up-other s =
      ap (λ o. option_or o (option_and_then (λ (act : Act). confirmed_by (offered B s past) act.link act.step) (act_in (other x) e past))) (i.no_ups (other x) s)
      ∙ ap (λ a. option_and_then (λ (act : Act). confirmed_by (offered B s past) act.link act.step) a) i.idle

  pub early-stays : (y : Side) (s : ℕ) → early_state y s (e ∷ past) ≡ early_state y s past
  early-stays y s =
      ap (λ b. after_loss b (group_on s past) (after_event y s e.event e.reply (early_state y s past))) (no-loss y (group_on s past)) ∙ i.early y s (early_state y s past)

  fates-of : (y : Side) (g : ℕ) → fates y g e past ≡ filter_map (fate_of y g (peer y (fabric_at from)).table) (peer y (fabric_at to)).table
  fates-of y g = ap (λ f. filter_map (fate_of y g (table_of y past)) (peer y f).table) now ∙ ap (λ f. filter_map (fate_of y g (peer y f).table) (peer y (fabric_at to)).table) was

  below-by : (g s : ℕ) (us fs : List Item) → ups x s e past ≡ us → ups (other x) s e past ≡ [] → fates x g e past ≡ fs → fates (other x) g e past ≡ []
      → items payload g s e past ≡ both-sides x us [] ++ both-sides x [] [] ++ both-sides x fs []
  below-by g s us fs u1 u2 f1 f2 =
      items-are payload g s e past
      ∙ (ap (λ (ds : List Item). ds ++ below g s e past) (i.no_deeds s)
      ∙ (below-of x g s e past
      ∙ (ap (λ (is : List Item). both-sides x is (ups (other x) s e past) ++ both-sides x (group_end x g e past) (group_end (other x) g e past) ++ both-sides x (fates x g e past) (fates (other x) g e past)) u1
      ∙ (ap (λ (is : List Item). both-sides x us is ++ both-sides x (group_end x g e past) (group_end (other x) g e past) ++ both-sides x (fates x g e past) (fates (other x) g e past)) u2
      ∙ (ap (λ (is : List Item). both-sides x us [] ++ both-sides x is (group_end (other x) g e past) ++ both-sides x (fates x g e past) (fates (other x) g e past)) (no-end x g)
      ∙ (ap (λ (is : List Item). both-sides x us [] ++ both-sides x [] is ++ both-sides x (fates x g e past) (fates (other x) g e past)) (no-end (other x) g)
      ∙ (ap (λ (is : List Item). both-sides x us [] ++ both-sides x [] [] ++ both-sides x is (fates (other x) g e past)) f1
      ∙ ap (λ (is : List Item). both-sides x us [] ++ both-sides x [] [] ++ both-sides x fs is) f2)))))))

  pub items-first : items payload 1 t e past ≡ Up x the_link ∷ Fate x the_link LiveLink ∷ []
  items-first =
      below-by 1 t (Up x the_link ∷ []) (Fate x the_link LiveLink ∷ []) (ap (λ o. option_to_list (option_map (Up x) o)) up-now) (ap (λ o. option_to_list (option_map (Up (other x)) o)) (no-up-other t))
      (fates-of x 1 ∙ fate-own c) (fates-of (other x) 1 ∙ fate-other c)
      ∙ two x
    where
      two : (y : Side) → both-sides y (Up x the_link ∷ []) [] ++ both-sides y [] [] ++ both-sides y (Fate x the_link LiveLink ∷ []) [] ≡ Up x the_link ∷ Fate x the_link LiveLink ∷ []
      two A = refl
      two B = refl

  pub items-else : (s : ℕ) → (s == t) ≡ false → items payload 0 s e past ≡ []
  items-else s n =
      below-by 0 s [] [] (ap (λ o. option_to_list (option_map (Up x) o)) (no-up-else s n)) (ap (λ o. option_to_list (option_map (Up (other x)) o)) (no-up-other s))
      (fates-of x 0 ∙ fate-none c x) (fates-of (other x) 0 ∙ fate-none c (other x))
      ∙ two x
    where
      two : (y : Side) → both-sides y [] [] ++ both-sides y [] [] ++ both-sides y [] [] ≡ []
      two A = refl
      two B = refl
