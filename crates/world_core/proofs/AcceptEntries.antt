-- B takes a Proposal and accepts it, in first or in later contact: it is what its manager does with the message.
use Rattle.pipe_model.specs.Keys.{keys_of}
use Rattle.std.proofs.Common.{◌≡◌, ◌∙◌, ◌⊎◌, inl, inr, ℕ, ◌+◌, ◌<◌, ◌==◌, Bool, true, false, if◌then◌else◌, List, [], ◌∷◌, ◌++◌, length, map, filter_map, refl, ap, sym, subst}
use Rattle.std.specs.Prelude.{Some, None, unwrap_or, slice_index_or}
use Rattle.smc_num.specs.declared.Side.{Side}
use Rattle.smc_num.specs.declared.Side.TheVariants.{A, B}
use Rattle.smc_num.specs.declared.LinkId.{LinkId}
use Rattle.smc_num.specs.Names.{head, up_to, no_link}
use Rattle.smc_num.specs.Links.{live_links}
use Rattle.smc_num.specs.Places.{Place, rmb_at}
use Rattle.rmb_region.specs.Regions.{Buffer}
use Rattle.clc_wire.specs.declared.offer.Offer.{Offer}
use Rattle.clc_wire.specs.declared.proposal.Proposal.{Proposal}
use Rattle.clc_wire.specs.declared.message.ClcMessage.TheVariants.{Proposal as ProposalMessage, Accept as AcceptMessage}
use Rattle.pipe_model.specs.declared.setup.Setup.{Setup}
use Rattle.pipe_model.specs.declared.event.Event.TheVariants.{Clc}
use Rattle.pipe_model.specs.declared.reply.Reply.TheVariants.{Sent}
use Rattle.pipe_model.specs.declared.reply.SentKind.TheVariants.{Accept as AcceptSent}
use Rattle.pipe_model.specs.declared.verdict.ClcStep.TheVariants.{SendAccept}
use Rattle.pipe_model.specs.declared.post.Post.{Post}
use Rattle.pipe_model.specs.declared.post.Post.TheVariants.{Clc as ClcPost}
use Rattle.pipe_model.specs.declared.entry.Entry.{Entry}
use Rattle.pipe_model.specs.History.{offered}
use Rattle.pipe_model.specs.Fabric.{fabric, peer, table_of, loses_group_with, made_on}
use Rattle.pipe_model.specs.Ends.{Half, fresh}
use Rattle.pipe_model.specs.Pipe.{Item, GroupEnd, half}
use Rattle.pipe_model.specs.Connections.{WaitsProposal, WaitsConfirm, part, end_state, is_up, fate_of, fates, ups, group_end, items}
use Rattle.pipe_model.specs.Messages.{offer, next_pair, pair_on}
use Rattle.smc_num.specs.Keys.{key_base, number_for}
use Rattle.pipe_model.specs.Lending.{lendings, pipe_of, free_places}
use Rattle.pipe_model.specs.Fallback.{Whole, front}
use Rattle.pipe_model.specs.Posts.{lightest, new_offer, next_free, offered_place, connection_posts, clc_posts, accept_post}
use Rattle.pipe_model.specs.Replies.{clc_step}
use Rattle.pipe_model.specs.Lawful.{asked, front_posts}
use Rattle.side_core.specs.Desk.{Desk, next_place, first_link as desk_link, begins_group}
use Rattle.side_core.specs.Manager.{Manager, hand_at, with_hand}
use Rattle.side_core.specs.Taking.{links_in_use, offered_link, offer_for, starts, with_desk, accepts}
use Rattle.world_core.specs.OneLink.{the_link, Stage, NoLink, Begun, LiveAtBoth, fabric_at, IsAtStage}
use Rattle.world_core.specs.Sockets.{IsWorld, IsOffer}
use Rattle.world_core.specs.Played.{IsOneLink, IsPlayed}
use Rattle.world_core.specs.Agreement.{IsShaken}
use Rattle.world_core.specs.Wired.{EachItem, keeps_open}
use Rattle.world_core.specs.Managers.{manager_of, desk_of, records_of, HasLendings}
use Rattle.world_core.proofs.EntryItems.{items-are, below-ups}
use Rattle.world_core.proofs.Offers.{IsFree, new-is-offer, first-link, later-link}
use Rattle.world_core.proofs.QuietEvents.{by-side, entry-of}
use Rattle.world_core.proofs.Moves.{link-moves, keeps-group}
use Rattle.world_core.proofs.LinkMoves.{begins-link, still-accept}
use Rattle.world_core.proofs.ClcMoves.{link-still}
use Rattle.world_core.proofs.Parts.{part-open}
use Rattle.world_core.proofs.KnownEntries.{offers-of}
use Rattle.world_core.proofs.StillEntries.{silent-pipes}
use Rattle.world_core.proofs.TakenMessages.{end-is}
use Rattle.world_core.proofs.LentRows.{free-place}
use Rattle.world_core.proofs.TakenAlone.{IsTakenBy, taken-by, paths_of, waits_first, is-early}
use Rattle.world_core.proofs.AcceptManagers.{Accepting, begins_contact, joins_group, accept_entry, accepts-own, accepts-theirs, accepts-lendings}
use Rattle.world_core.proofs.Plain.{and-false}

-- no fate in such an entry
fates-none : {s : ℕ} {first : Bool} {from to : Stage} → Accepting s first from to → (y : Side) (g : ℕ) → filter_map (fate_of y g (peer y (fabric_at from)).table) (peer y (fabric_at to)).table ≡ []
fates-none (begins_contact s) A g = refl
fates-none (begins_contact s) B g = refl
fates-none (joins_group s t) A g = rw (and-false (1 == g)) refl
fates-none (joins_group s t) B g = rw (and-false (1 == g)) refl

keeps-groups : {s : ℕ} {first : Bool} {from to : Stage} → Accepting s first from to → (y : Side) → ((peer y (fabric_at from)).group ≡ 0) ⊎ ((peer y (fabric_at from)).group ≡ (peer y (fabric_at to)).group)
keeps-groups (begins_contact s) A = inl refl
keeps-groups (begins_contact s) B = inl refl
keeps-groups (joins_group s t) A = inr refl
keeps-groups (joins_group s t) B = inr refl

module _ {s : ℕ} {first : Bool} {from to : Stage} (setup : Setup) (one : IsOneLink setup) (payload : List ℕ) (regions : List Buffer) (past : List Entry) (c : Accepting s first from to) (world : IsWorld setup from past) (lendings_are : HasLendings setup payload past)
    (known : s < setup.sockets) (place : Place) (free_at : IsFree setup payload B past place) (fresh_end : half B (pipe_of setup payload 1 s past) ≡ record (fresh setup.number) { live = live_links (table_of B past) })
    (p : Proposal) (len : ℕ) (state : end_state B s past ≡ WaitsProposal) (at : front payload A s past ≡ Whole (ProposalMessage p) len) (step : clc_step setup payload B s (ProposalMessage p) past ≡ SendAccept first)
    (link_then : (a : ℕ) → IsAtStage setup to (accept_entry a s (new_offer setup payload B first the_link past) ∷ past))
    (asks : clc_posts setup payload B s (ProposalMessage p) past (SendAccept first) ≡ accept_post setup payload s first the_link past ∷ [])
    (names : offered_link first (paths_of past) (manager_of setup payload regions B past) ≡ the_link) where
  abbrev o : Offer
  o = new_offer setup payload B first the_link past

  abbrev here : Manager Half
  here = manager_of setup payload regions B past

  is-offer : IsOffer setup B first o
  is-offer = new-is-offer setup payload B first from past place world.link free_at

  place-is : next_free setup payload B past ≡ place
  place-is = ap (λ q. unwrap_or q (record { rmb = 0; index = 0 })) free_at.found

  offered-is : place ≡ offered_place o
  offered-is =
      ap (λ n. let q : Place = record { rmb = n; index = place.index } in q) (free_at.rmb ∙ sym (let i = is-offer in i.rmb))
      ∙ ap (λ (r : Place). let q : Place = record { rmb = rmb_at o.address; index = r.index } in q) (sym place-is)

  no-loss : (a : ℕ) (y : Side) (g : ℕ) → loses_group_with y g (accept_entry a s o) past ≡ false
  no-loss a y g = keeps-group setup (accept_entry a s o) past from to world.link (link_then a) (keeps-groups c) y g

  no-end : (a : ℕ) (y : Side) (g : ℕ) → group_end y g (accept_entry a s o) past ≡ []
  no-end a y g = ap (λ b. if b then GroupEnd y ∷ [] else []) (no-loss a y g)

  no-ups : (a : ℕ) (y : Side) (t : ℕ) → ups y t (accept_entry a s o) past ≡ []
  no-ups a = by-side (λ y. (t : ℕ) → ups y t (accept_entry a s o) past ≡ []) (λ t. refl) (λ t. refl)

  no-fates : (a : ℕ) (y : Side) (g : ℕ) → fates y g (accept_entry a s o) past ≡ []
  no-fates a y g =
      let l = world.link in
      let n = link_then a in
      ap (λ f. filter_map (fate_of y g (table_of y past)) (peer y f).table) n.fabric_is
      ∙ (ap (λ f. filter_map (fate_of y g (peer y f).table) (peer y (fabric_at to)).table) l.fabric_is ∙ fates-none c y g)

  no-items : (a : ℕ) (g t : ℕ) → items payload g t (accept_entry a s o) past ≡ []
  no-items a g t =
      let e : Entry = accept_entry a s o in
      items-are payload g t e past ∙ below-ups g t e past [] (ap (λ (us : List Item). us ++ ups B t e past) (no-ups a A t) ∙ no-ups a B t) (λ y. no-end a y g) (λ y. no-fates a y g)

  -- what the manager makes of it
  rmb-next : (next_place (desk_of setup payload B past)).rmb ≡ 1
  rmb-next = ap (λ q. let r : Place = unwrap_or q (record { rmb = 0; index = 0 }) in r.rmb) (free-place setup payload B past ∙ free_at.found) ∙ free_at.rmb

  offer-same : offer_for first the_link here ≡ o
  offer-same =
      ap (λ (r : Place). offer setup B first the_link (if first then next_pair B 1 past else pair_on B 1 past) (number_for (key_base B) r.rmb 1 (keys_of B past).keys) r (length (lendings B past) + 1))
      (ap (λ q. unwrap_or q (record { rmb = 0; index = 0 })) (free-place setup payload B past))

  abbrev w : waits_first (end_state B s past) ≡ true
  w = ap (λ st. waits_first st) state

  module _ (actor n : ℕ) (posts : List Post) (played : IsPlayed setup payload (entry-of actor (Clc s A) (Sent AcceptSent) posts ∷ past) n) (shaken : IsShaken setup (entry-of actor (Clc s A) (Sent AcceptSent) posts ∷ past)) where
    asked-is : asked setup payload past (Clc s A) (Sent AcceptSent) ≡ accept_post setup payload s first the_link past ∷ []
    asked-is = ap (λ f. front_posts setup payload B s past f) at ∙ (ap (λ st. clc_posts setup payload B s (ProposalMessage p) past st) step ∙ asks)

    made-posts : posts ≡ accept_post setup payload s first the_link past ∷ []
    made-posts =
        let m = played.1 in
        m.posts
        ∙ (ap (λ r. let q : Entry = record { actor = 0; event = Clc s A; reply = r; posts = asked setup payload past (Clc s A) r } in q.posts ++ connection_posts setup payload q past) (sym m.reply)
        ∙ (ap (λ (ps : List Post). ps ++ connection_posts setup payload (entry-of 0 (Clc s A) (Sent AcceptSent) ps) past) asked-is
        ∙ ap (λ (ps : List Post). (accept_post setup payload s first the_link past ∷ []) ++ ps) (silent-pipes setup payload past (accept_entry 0 s o) (no-items 0))))

    played-now : IsPlayed setup payload (accept_entry actor s o ∷ past) n
    played-now = subst (λ (ps : List Post). IsPlayed setup payload (entry-of actor (Clc s A) (Sent AcceptSent) ps ∷ past) n) made-posts played

    shaken-now : IsShaken setup (accept_entry actor s o ∷ past)
    shaken-now = subst (λ (ps : List Post). IsShaken setup (entry-of actor (Clc s A) (Sent AcceptSent) ps ∷ past)) made-posts shaken

    none-b : offered B s past ≡ None
    none-b =
        let k = world.sockets s in
        let st = k.stands in
        let i = is-early k.at B (ap (λ st. waits_first st) (sym (end-is setup k.at s past k.stands B)) ∙ w) in
        st.offer B ∙ i.none

    down-b : is_up B s past ≡ false
    down-b =
        let k = world.sockets s in
        let st = k.stands in
        let i = is-early k.at B (ap (λ st. waits_first st) (sym (end-is setup k.at s past k.stands B)) ∙ w) in
        st.up B ∙ i.down

    none-a : offered A s past ≡ None
    none-a = let q = shaken.1 in let r = q.1 in let os = offers-of setup past r.1 in os.answer s none-b

    free-is : head (free_places setup payload B past) ≡ Some (offered_place o)
    free-is = free_at.found ∙ ap (λ q. Some q) offered-is

    open-items : (g t : ℕ) → EachItem keeps_open (part payload g t (accept_entry actor s o ∷ past))
    open-items g t = part-open setup payload g t (accept_entry actor s o ∷ past) n played-now shaken-now

    desk1-is : record here { desk = if first then begins_group s the_link 1 (desk_of setup payload B past) else desk_of setup payload B past } ≡ (if first then with_desk (begins_group s the_link (next_place (desk_of setup payload B past)).rmb) here else here)
    desk1-is = ap (λ n. let m : Manager Half = record here { desk = if first then begins_group s the_link n (desk_of setup payload B past) else desk_of setup payload B past } in m) (sym rmb-next) ∙ by first
      where
        by : (b : Bool) → record here { desk = if b then begins_group s the_link (next_place (desk_of setup payload B past)).rmb (desk_of setup payload B past) else desk_of setup payload B past } ≡ (if b then with_desk (begins_group s the_link (next_place (desk_of setup payload B past)).rmb) here else here)
        by true = refl
        by false = refl

    taken-now : IsTakenBy setup payload regions B s (ProposalMessage p) no_link (accept_entry actor s o) past
    taken-now =
        let i = is-offer in
        taken-by setup payload regions B s (ProposalMessage p) no_link (SendAccept first) (accept_entry actor s o) past one.links known step
        (record {
          reply = refl;
          posts = ap (λ (q : Offer). ClcPost B s (Some the_link) (AcceptMessage q) ∷ []) (sym offer-same) ∙ ap (λ link. ClcPost B s (Some link) (AcceptMessage (offer_for first link here)) ∷ []) (sym names);
          own = accepts-own setup payload regions past c actor o i.first_is world.link (link_then actor) lendings_are known one.rmbs_b free-is i.rmb refl none-b none-a down-b (no-loss actor) open-items (no-items actor) fresh_end
              ∙ (ap (λ m. with_hand s (record (hand_at s here) { state = WaitsConfirm }) (starts s the_link m)) desk1-is
              ∙ ap (λ link. with_hand s (record (hand_at s here) { state = WaitsConfirm }) (accepts s first link here)) (sym names));
        })
        (accepts-theirs setup payload regions past c actor o i.first_is world.link (link_then actor) lendings_are known one.rmbs_b free-is i.rmb refl none-b none-a down-b (no-loss actor) open-items (no-items actor) fresh_end)
        (accepts-lendings setup payload regions past c actor o i.first_is world.link (link_then actor) lendings_are known one.rmbs_b free-is i.rmb refl none-b none-a down-b (no-loss actor) open-items (no-items actor) fresh_end)

    pub accept-taken : IsTakenBy setup payload regions B s (ProposalMessage p) no_link (entry-of actor (Clc s A) (Sent AcceptSent) posts) past
    accept-taken = subst (λ (ps : List Post). IsTakenBy setup payload regions B s (ProposalMessage p) no_link (entry-of actor (Clc s A) (Sent AcceptSent) ps) past) (sym made-posts) taken-now

-- in first contact
module _ (setup : Setup) (one : IsOneLink setup) (payload : List ℕ) (regions : List Buffer) (past : List Entry) (lendings_are : HasLendings setup payload past) (s : ℕ) (known : s < setup.sockets) (place : Place) (free_at : IsFree setup payload B past place)
    (fresh_end : half B (pipe_of setup payload 1 s past) ≡ record (fresh setup.number) { live = live_links (table_of B past) }) (p : Proposal) (len : ℕ) (state : end_state B s past ≡ WaitsProposal) (at : front payload A s past ≡ Whole (ProposalMessage p) len)
    (actor n : ℕ) (posts : List Post) (played : IsPlayed setup payload (entry-of actor (Clc s A) (Sent AcceptSent) posts ∷ past) n) (shaken : IsShaken setup (entry-of actor (Clc s A) (Sent AcceptSent) posts ∷ past)) where
  -- the link that the desk names
  desk-names : IsAtStage setup NoLink past → offered_link true (paths_of past) (manager_of setup payload regions B past) ≡ the_link
  desk-names l =
      ap (λ b. let d : Desk = desk_of setup payload B past in desk_link (b ∷ []) d) l.path
      ∙ (ap (λ k. let link : LinkId = record { group = k + 1; slot = 1; incarnation = slice_index_or (map (λ k. made_on k (fabric past)) (up_to setup.links)) 0 0 + 1 } in link) l.groups
      ∙ (ap (λ k. let link : LinkId = record { group = 1; slot = 1; incarnation = slice_index_or (map (λ k. made_on k (fabric past)) (up_to k)) 0 0 + 1 } in link) one.links
      ∙ ap (λ f. let link : LinkId = record { group = 1; slot = 1; incarnation = made_on 1 f + 1 } in link) l.fabric_is))

  pub first-accepted : (world : IsWorld setup NoLink past) → clc_step setup payload B s (ProposalMessage p) past ≡ SendAccept true
      → IsTakenBy setup payload regions B s (ProposalMessage p) no_link (entry-of actor (Clc s A) (Sent AcceptSent) posts) past
  first-accepted world step =
      let l = world.link in
      accept-taken setup one payload regions past (begins_contact s) world lendings_are known place free_at fresh_end p len state at step
      (λ a. link-moves setup (accept_entry a s (new_offer setup payload B true the_link past)) past NoLink (Begun s)
      (begins-link setup a s past (new_offer setup payload B true the_link past) world.link (new-is-offer setup payload B true NoLink past place world.link free_at)) world.link)
      (ap (λ link. accept_post setup payload s true link past ∷ []) (first-link setup past one.links world.link)) (desk-names world.link) actor n posts played shaken

  -- in later contact
  pub later-accepted : (t : ℕ) (world : IsWorld setup (LiveAtBoth t) past) → clc_step setup payload B s (ProposalMessage p) past ≡ SendAccept false
      → IsTakenBy setup payload regions B s (ProposalMessage p) no_link (entry-of actor (Clc s A) (Sent AcceptSent) posts) past
  later-accepted t world step =
      let l = world.link in
      accept-taken setup one payload regions past (joins_group s t) world lendings_are known place free_at fresh_end p len state at step
      (λ a. link-moves setup (accept_entry a s (new_offer setup payload B false the_link past)) past (LiveAtBoth t) (LiveAtBoth t)
      (link-still setup a s A (Sent AcceptSent) (ClcPost B s (Some the_link) (AcceptMessage (new_offer setup payload B false the_link past)) ∷ []) past (LiveAtBoth t) world.link
      (still-accept s past (fabric_at (LiveAtBoth t)) (new_offer setup payload B false the_link past) refl)) world.link)
      (ap (λ link. accept_post setup payload s false link past ∷ []) (later-link setup payload past t world.link))
      (ap (λ f. lightest (links_in_use (records_of setup payload B past)) (live_links (peer B f).table)) l.fabric_is) actor n posts played shaken
