-- A takes the Accept of first contact and confirms: it is what its manager does with the message.
use Rattle.clc_handshake.specs.Stages.{named_group, after_step}
use Rattle.pipe_model.specs.Keys.{keys_of}
use Rattle.std.proofs.Common.{◌≡◌, ◌∙◌, ◌⊎◌, inl, inr, ℕ, ◌+◌, ◌<◌, ◌==◌, true, false, if◌then◌else◌, List, [], ◌∷◌, ◌++◌, length, filter_map, refl, ap, sym, subst, true≢false, eq-eqb}
use Rattle.std.specs.Prelude.{Some, None, option_map, unwrap_or}
use Rattle.smc_num.specs.declared.Side.{Side}
use Rattle.smc_num.specs.declared.Side.TheVariants.{A, B}
use Rattle.smc_num.specs.Names.{head, no_link}
use Rattle.smc_num.specs.Links.{live_links}
use Rattle.smc_num.specs.Places.{Place, rmb_at}
use Rattle.rmb_region.specs.Regions.{Buffer}
use Rattle.clc_wire.specs.declared.offer.Offer.{Offer}
use Rattle.clc_wire.specs.declared.message.ClcMessage.TheVariants.{Accept as AcceptMessage, Confirm as ConfirmMessage}
use Rattle.pipe_model.specs.declared.setup.Setup.{Setup}
use Rattle.pipe_model.specs.declared.event.Event.TheVariants.{Clc}
use Rattle.pipe_model.specs.declared.reply.Reply.TheVariants.{Sent}
use Rattle.pipe_model.specs.declared.reply.SentKind.TheVariants.{Confirm as ConfirmSent}
use Rattle.pipe_model.specs.declared.verdict.ClcStep.TheVariants.{SendConfirm}
use Rattle.pipe_model.specs.declared.post.Post.{Post}
use Rattle.pipe_model.specs.declared.post.Post.TheVariants.{Clc as ClcPost}
use Rattle.pipe_model.specs.declared.entry.Entry.{Entry}
use Rattle.pipe_model.specs.History.{Offered, offered}
use Rattle.pipe_model.specs.Fabric.{peer, table_of, loses_group_with}
use Rattle.pipe_model.specs.Ends.{Half, fresh}
use Rattle.pipe_model.specs.Pipe.{Item, GroupEnd, half}
use Rattle.pipe_model.specs.Connections.{IsUp, WaitsConfirm, WaitsLink, early_state, part, end_state, is_up, fate_of, fates, ups, group_end, items, named_link}
use Rattle.pipe_model.specs.Messages.{offer, next_pair}
use Rattle.smc_num.specs.Keys.{key_base, number_for}
use Rattle.pipe_model.specs.Lending.{lendings, pipe_of, free_places}
use Rattle.pipe_model.specs.Fallback.{Whole, front}
use Rattle.pipe_model.specs.Posts.{new_offer, next_free, offered_place, connection_posts, clc_posts, confirm_post}
use Rattle.pipe_model.specs.Replies.{clc_step, step_told}
use Rattle.pipe_model.specs.Lawful.{asked, front_posts}
use Rattle.side_core.specs.Desk.{next_place, begins_group, makes_link, learns_offer}
use Rattle.side_core.specs.Manager.{Manager, hand_at, with_hand, state_at}
use Rattle.side_core.specs.Taking.{verdict_posts, verdict_risen, takes_message, taking_posts, taking_told, offer_for, starts, with_desk, hears, verdict_at, by_verdict}
use Rattle.world_core.specs.OneLink.{the_link, Begun, Made, fabric_at, IsAtStage}
use Rattle.world_core.specs.Sockets.{Socket, FirstAccepted, first_step, is_unoffered, on_link, StandsAt, IsWorld, IsOffer}
use Rattle.world_core.specs.Played.{IsOneLink, IsPlayed}
use Rattle.world_core.specs.Agreement.{IsShaken}
use Rattle.world_core.specs.Wired.{EachItem, keeps_open}
use Rattle.world_core.specs.Managers.{manager_of, desk_of, HasLendings}
use Rattle.world_core.proofs.EntryItems.{items-are, below-ups}
use Rattle.world_core.proofs.Offers.{IsFree, new-is-offer}
use Rattle.world_core.proofs.QuietEvents.{by-side, entry-of}
use Rattle.world_core.proofs.Moves.{link-moves, keeps-group}
use Rattle.world_core.proofs.LinkMoves.{makes-link as makes-the-link}
use Rattle.world_core.proofs.Parts.{part-open}
use Rattle.world_core.proofs.StillEntries.{silent-pipes}
use Rattle.world_core.proofs.LentRows.{free-place, same-verdict}
use Rattle.world_core.proofs.TakenAlone.{paths_of}
use Rattle.world_core.proofs.ConfirmManagers.{confirm_entry, confirms-own, confirms-theirs, confirms-lendings}
use Rattle.world_core.proofs.Plain.{and-false}

-- an entry in which A takes the Accept of first contact: its reply, its posts and its manager are what its manager makes of the message,
-- and in the manager of B the link is made
pub record IsFirstConfirmed (setup : Setup) (payload : List ℕ) (regions : List Buffer) (s : ℕ) (ob : Offer) (e : Entry) (past : List Entry) : Type 0 where
  pub taken : e.reply ≡ taking_told s (AcceptMessage ob) (paths_of past) (manager_of setup payload regions A past)
  pub posts : e.posts ≡ taking_posts s (AcceptMessage ob) the_link (paths_of past) (manager_of setup payload regions A past)
  pub own : manager_of setup payload regions A (e ∷ past) ≡ takes_message s (AcceptMessage ob) the_link (paths_of past) (manager_of setup payload regions A past)
  pub theirs : manager_of setup payload regions B (e ∷ past) ≡ with_desk (makes_link the_link) (manager_of setup payload regions B past)
  pub lendings_are : HasLendings setup payload (e ∷ past)

-- no fate in such an entry: the link is pending
fates-none : (s : ℕ) (y : Side) (g : ℕ) → filter_map (fate_of y g (peer y (fabric_at (Begun s))).table) (peer y (fabric_at (Made s))).table ≡ []
fates-none s A g = rw (and-false (1 == g)) refl
fates-none s B g = rw (and-false (1 == g)) refl

keeps-groups : (s : ℕ) (y : Side) → ((peer y (fabric_at (Begun s))).group ≡ 0) ⊎ ((peer y (fabric_at (Begun s))).group ≡ (peer y (fabric_at (Made s))).group)
keeps-groups s A = inl refl
keeps-groups s B = inr refl

-- what is known of the socket
record IsAccepted (setup : Setup) (s : ℕ) (ob : Offer) (past : List Entry) : Type 0 where
  pub of_b : IsOffer setup B true ob
  pub none_a : offered A s past ≡ None
  pub down : is_up A s past ≡ false
  pub waits : end_state B s past ≡ WaitsConfirm
  pub named : named_link s past ≡ Some the_link

accepted : (setup : Setup) (s : ℕ) (ob : Offer) (past : List Entry) (k : Socket) → (first_step k == 1) ≡ true → StandsAt setup k s past → offered B s past ≡ on_link ob → IsAccepted setup s ob past
accepted setup s ob past (FirstAccepted o) f at theirs = record {
  of_b = subst (λ q. IsOffer setup B true q) (same o ob (sym (at.offer B) ∙ theirs)) (at.offers B (record { link = the_link; offer = o }) refl);
  none_a = at.offer A;
  down = at.up A;
  waits = ap (λ b. if b then IsUp else early_state B s past) (at.up B) ∙ at.early B;
  named = ap (λ q. option_map (λ (p : Offered). p.link) q) theirs;
}
  where
    same : (a b : Offer) → on_link a ≡ on_link b → a ≡ b
    same a b e = ap (λ q. unwrap_or (option_map (λ (p : Offered). p.offer) q) a) e
accepted setup s ob past _ f at theirs = absurd (true≢false (sym f))

module _ (setup : Setup) (one : IsOneLink setup) (payload : List ℕ) (regions : List Buffer) (past : List Entry) (s : ℕ) (world : IsWorld setup (Begun s) past) (lendings_are : HasLendings setup payload past)
    (known : s < setup.sockets) (place : Place) (free_at : IsFree setup payload A past place) (fresh_end : half A (pipe_of setup payload 1 s past) ≡ record (fresh setup.number) { live = live_links (table_of A past) })
    (ob : Offer) (len : ℕ) (theirs : offered B s past ≡ on_link ob) (at : front payload B s past ≡ Whole (AcceptMessage ob) len) (step : clc_step setup payload A s (AcceptMessage ob) past ≡ SendConfirm true) where
  abbrev o : Offer
  o = new_offer setup payload A true the_link past

  abbrev here : Manager Half
  here = manager_of setup payload regions A past

  is-offer : IsOffer setup A true o
  is-offer = new-is-offer setup payload A true (Begun s) past place world.link free_at

  socket : IsAccepted setup s ob past
  socket = let h = world.sockets s in accepted setup s ob past h.at (sym (ap (λ b. if b then first_step h.at == 1 else is_unoffered h.at) (eq-eqb s s refl)) ∙ h.suits_is) h.stands theirs

  place-is : next_free setup payload A past ≡ place
  place-is = ap (λ q. unwrap_or q (record { rmb = 0; index = 0 })) free_at.found

  offered-is : place ≡ offered_place o
  offered-is =
      ap (λ n. let q : Place = record { rmb = n; index = place.index } in q) (free_at.rmb ∙ sym (let i = is-offer in i.rmb))
      ∙ ap (λ (r : Place). let q : Place = record { rmb = rmb_at o.address; index = r.index } in q) (sym place-is)

  link-then : (a : ℕ) → IsAtStage setup (Made s) (confirm_entry a s o ∷ past)
  link-then a = link-moves setup (confirm_entry a s o) past (Begun s) (Made s) (makes-the-link setup a s past ob o world.link theirs (let q = socket in q.of_b) is-offer) world.link

  no-loss : (a : ℕ) (y : Side) (g : ℕ) → loses_group_with y g (confirm_entry a s o) past ≡ false
  no-loss a y g = keeps-group setup (confirm_entry a s o) past (Begun s) (Made s) world.link (link-then a) (keeps-groups s) y g

  no-end : (a : ℕ) (y : Side) (g : ℕ) → group_end y g (confirm_entry a s o) past ≡ []
  no-end a y g = ap (λ b. if b then GroupEnd y ∷ [] else []) (no-loss a y g)

  no-ups : (a : ℕ) (y : Side) (t : ℕ) → ups y t (confirm_entry a s o) past ≡ []
  no-ups a = by-side (λ y. (t : ℕ) → ups y t (confirm_entry a s o) past ≡ []) (λ t. refl) (λ t. refl)

  no-fates : (a : ℕ) (y : Side) (g : ℕ) → fates y g (confirm_entry a s o) past ≡ []
  no-fates a y g =
      let l = world.link in
      let n = link-then a in
      ap (λ f. filter_map (fate_of y g (table_of y past)) (peer y f).table) n.fabric_is
      ∙ (ap (λ f. filter_map (fate_of y g (peer y f).table) (peer y (fabric_at (Made s))).table) l.fabric_is ∙ fates-none s y g)

  no-items : (a : ℕ) (g t : ℕ) → items payload g t (confirm_entry a s o) past ≡ []
  no-items a g t =
      let e : Entry = confirm_entry a s o in
      items-are payload g t e past ∙ below-ups g t e past [] (ap (λ (us : List Item). us ++ ups B t e past) (no-ups a A t) ∙ no-ups a B t) (λ y. no-end a y g) (λ y. no-fates a y g)

  rmb-next : (next_place (desk_of setup payload A past)).rmb ≡ 1
  rmb-next = ap (λ q. let r : Place = unwrap_or q (record { rmb = 0; index = 0 }) in r.rmb) (free-place setup payload A past ∙ free_at.found) ∙ free_at.rmb

  offer-same : offer_for true the_link here ≡ o
  offer-same =
      ap (λ (r : Place). offer setup A true the_link (next_pair A 1 past) (number_for (key_base A) r.rmb 1 (keys_of A past).keys) r (length (lendings A past) + 1))
      (ap (λ q. unwrap_or q (record { rmb = 0; index = 0 })) (free-place setup payload A past))

  module _ (actor n : ℕ) (posts : List Post) (played : IsPlayed setup payload (entry-of actor (Clc s B) (Sent ConfirmSent) posts ∷ past) n) (shaken : IsShaken setup (entry-of actor (Clc s B) (Sent ConfirmSent) posts ∷ past)) where
    asked-is : asked setup payload past (Clc s B) (Sent ConfirmSent) ≡ confirm_post setup payload s true the_link past ∷ []
    asked-is =
        ap (λ f. front_posts setup payload A s past f) at
        ∙ (ap (λ st. clc_posts setup payload A s (AcceptMessage ob) past st) step
        ∙ ap (λ q. confirm_post setup payload s true (unwrap_or q no_link) past ∷ []) (let k = socket in k.named))

    made-posts : posts ≡ confirm_post setup payload s true the_link past ∷ []
    made-posts =
        let m = played.1 in
        m.posts
        ∙ (ap (λ r. let q : Entry = record { actor = 0; event = Clc s B; reply = r; posts = asked setup payload past (Clc s B) r } in q.posts ++ connection_posts setup payload q past) (sym m.reply)
        ∙ (ap (λ (ps : List Post). ps ++ connection_posts setup payload (entry-of 0 (Clc s B) (Sent ConfirmSent) ps) past) asked-is
        ∙ ap (λ (ps : List Post). (confirm_post setup payload s true the_link past ∷ []) ++ ps) (silent-pipes setup payload past (confirm_entry 0 s o) (no-items 0))))

    played-now : IsPlayed setup payload (confirm_entry actor s o ∷ past) n
    played-now = subst (λ (ps : List Post). IsPlayed setup payload (entry-of actor (Clc s B) (Sent ConfirmSent) ps ∷ past) n) made-posts played

    shaken-now : IsShaken setup (confirm_entry actor s o ∷ past)
    shaken-now = subst (λ (ps : List Post). IsShaken setup (entry-of actor (Clc s B) (Sent ConfirmSent) ps ∷ past)) made-posts shaken

    free-is : head (free_places setup payload A past) ≡ Some (offered_place o)
    free-is = free_at.found ∙ ap (λ q. Some q) offered-is

    open-items : (g t : ℕ) → EachItem keeps_open (part payload g t (confirm_entry actor s o ∷ past))
    open-items g t = part-open setup payload g t (confirm_entry actor s o ∷ past) n played-now shaken-now

    step-is : SendConfirm true ≡ verdict_at s (AcceptMessage ob) (paths_of past) here
    step-is = sym (same-verdict setup payload A past regions s (AcceptMessage ob) one.links known ∙ step)

    confirmed-now : IsFirstConfirmed setup payload regions s ob (confirm_entry actor s o) past
    confirmed-now =
        let i = is-offer in
        let k = socket in
        let b = k.of_b in
        record {
          taken = ap (λ st. step_told (named_group (AcceptMessage ob)) (AcceptMessage ob) st) step-is;
          posts =
              ap (λ (q : Offer). ClcPost A s (Some the_link) (ConfirmMessage q) ∷ []) (sym offer-same)
              ∙ ap (λ st. verdict_posts s (AcceptMessage ob) the_link (paths_of past) here st ++ verdict_risen s (AcceptMessage ob) the_link here st) step-is;
          own = confirms-own setup payload regions past s actor o ob i.first_is world.link (link-then actor) lendings_are known one.links one.rmbs_a free-is i.rmb refl b.key b.rmb theirs k.none_a k.down k.waits (no-loss actor) open-items (no-items actor) fresh_end
              ∙ (ap (λ n. with_hand s (record (hand_at s here) { state = WaitsLink }) (hears s ob (starts s the_link (record here { desk = learns_offer the_link ob (makes_link the_link (begins_group s the_link n (desk_of setup payload A past))) })))) (sym rmb-next)
              ∙ ap (λ st. with_hand s (record (hand_at s here) { state = after_step st (AcceptMessage ob) (state_at s here) }) (by_verdict s (AcceptMessage ob) the_link (paths_of past) here st)) step-is);
          theirs = confirms-theirs setup payload regions past s actor o ob i.first_is world.link (link-then actor) lendings_are known one.links one.rmbs_a free-is i.rmb refl b.key b.rmb theirs k.none_a k.down k.waits (no-loss actor) open-items (no-items actor) fresh_end;
          lendings_are = confirms-lendings setup payload regions past s actor o ob i.first_is world.link (link-then actor) lendings_are known one.links one.rmbs_a free-is i.rmb refl b.key b.rmb theirs k.none_a k.down k.waits (no-loss actor) open-items (no-items actor) fresh_end;
        }

    pub first-confirmed : IsFirstConfirmed setup payload regions s ob (entry-of actor (Clc s B) (Sent ConfirmSent) posts) past
    first-confirmed = subst (λ (ps : List Post). IsFirstConfirmed setup payload regions s ob (entry-of actor (Clc s B) (Sent ConfirmSent) ps) past) (sym made-posts) confirmed-now
