-- A takes an Accept of later contact and is established: it is what its manager does with the message.
use Rattle.clc_wire.specs.declared.offer.Offer.{Offer}
use Rattle.pipe_model.specs.Fabric.{group_of, loses_group_with, peer, table_of}
use Rattle.pipe_model.specs.History.{Offered, offered}
use Rattle.pipe_model.specs.Keys.{keys_of}
use Rattle.pipe_model.specs.Lawful.{asked, front_posts}
use Rattle.pipe_model.specs.Lending.{free_places, lendings, pipe_of, terms_of}
use Rattle.pipe_model.specs.Replies.{clc_step}
use Rattle.pipe_model.specs.Words.{element_size}
use Rattle.pipe_model.specs.declared.entry.Entry.{Entry}
use Rattle.pipe_model.specs.declared.post.Post.{Post}
use Rattle.pipe_model.specs.declared.setup.Setup.{Setup}
use Rattle.pipe_model.specs.declared.verdict.ClcStep.TheVariants.{SendConfirm}
use Rattle.rmb_region.specs.Regions.{Buffer}
use Rattle.side_core.specs.Manager.{Manager}
use Rattle.side_core.specs.Taking.{offer_for}
use Rattle.smc_num.specs.Keys.{key_base, number_for}
use Rattle.smc_num.specs.Links.{live_links}
use Rattle.smc_num.specs.Names.{head, no_link, other}
use Rattle.smc_num.specs.Places.{Place, rmb_at}
use Rattle.smc_num.specs.declared.LinkId.{LinkId}
use Rattle.smc_num.specs.declared.Side.{Side}
use Rattle.smc_num.specs.declared.Side.TheVariants.{A, B}
use Rattle.std.proofs.Common.{List, [], ap, arith, eq-eqb, false, filter_map, flat_map, if◌then◌else◌, length, not, refl, reverse, subst, sym, ℕ, ◌++◌, ◌+◌, ◌<◌, ◌==◌, ◌∙◌, ◌∷◌, ◌≡◌}
use Rattle.std.specs.Option.{option_or}
use Rattle.std.specs.Prelude.{None, Some, option_map, option_to_list, unwrap_or}
use Rattle.world_core.proofs.EntryItems.{items-are, below-ups}
use Rattle.world_core.proofs.LaterManagers.{later-lendings, later-own, later-rests, later-theirs, later_entry, new-rests, new_end}
use Rattle.world_core.proofs.LentRows.{free-place}
use Rattle.world_core.proofs.Parts.{part-open}
use Rattle.world_core.proofs.QuietEntries.{one-fate, same-group}
use Rattle.world_core.proofs.QuietEvents.{entry-of}
use Rattle.world_core.proofs.TakenAlone.{IsTakenBy, taken-by}
use Rattle.world_core.specs.Agreement.{IsShaken}
use Rattle.world_core.specs.Managers.{HasLendings, end_of, manager_of}
use Rattle.world_core.specs.OneLink.{IsAtStage, LiveAtBoth, fabric_at, the_link}
use Rattle.world_core.specs.Played.{IsOneLink, IsPlayed}
use Rattle.world_core.specs.Sockets.{Accepted, IsOffer, IsWorld, StandsAt}
use Rattle.world_core.specs.Wired.{EachItem, keeps_open}
use Rattle.pipe_model.specs.declared.reply.Reply.TheVariants.{Established}
use Rattle.pipe_model.specs.declared.post.Post.TheVariants.{Clc as ClcPost}
use Rattle.pipe_model.specs.declared.event.Event.TheVariants.{Clc}
use Rattle.clc_wire.specs.declared.message.ClcMessage.TheVariants.{Accept as AcceptMessage, Confirm as ConfirmMessage}
use Rattle.pipe_model.specs.Ends.{Half, is_due, comes_up, batch}
use Rattle.pipe_model.specs.Pipe.{Item, Up, GroupEnd, half, pipe, posts_of, sent_since}
use Rattle.pipe_model.specs.Connections.{WaitsConfirm, IsUp, end_state, is_up, early_state, named_link, group_on, ups, fates, fate_of, group_end, items, part, comes_up as comes_up_with}
use Rattle.world_core.proofs.PipeSteps.{rests, sent-by}
use Rattle.world_core.proofs.LinkMoves.{still-confirm}
use Rattle.world_core.proofs.ClcMoves.{link-still}
use Rattle.world_core.proofs.Moves.{link-moves}
use Rattle.pipe_model.specs.declared.sent.Sent.{Sent as SentMessage}
use Rattle.world_core.proofs.PipePosts.{met}
use Rattle.pipe_model.specs.Posts.{new_offer, next_free, offered_place, connection_posts, clc_posts, confirm_post, sent_posts, end_posts, pipe_posts, is_offered}
use Rattle.world_core.proofs.Offers.{IsFree, new-is-offer}
use Rattle.pipe_model.specs.Messages.{offer, pair_on}
use Rattle.pipe_model.specs.Fallback.{Whole, front}
use Rattle.std.proofs.Math.Seq.{drop-length}

-- what is known of the socket
record IsJoining (setup : Setup) (s : ℕ) (past : List Entry) : Type 0 where
  pub none_a : offered A s past ≡ None
  pub down_a : is_up A s past ≡ false
  pub down_b : is_up B s past ≡ false
  pub waits : end_state B s past ≡ WaitsConfirm
  pub named : named_link s past ≡ Some the_link

joining : (setup : Setup) (s : ℕ) (past : List Entry) (ob : Offer) → StandsAt setup (Accepted ob) s past → IsJoining setup s past
joining setup s past ob at = record {
  none_a = at.offer A;
  down_a = at.up A;
  down_b = at.up B;
  waits = ap (λ b. if b then IsUp else early_state B s past) (at.up B) ∙ at.early B;
  named = ap (λ q. option_map (λ (p : Offered). p.link) q) (at.offer B);
}

module _ (setup : Setup) (one : IsOneLink setup) (payload : List ℕ) (regions : List Buffer) (past : List Entry) (t0 s : ℕ) (world : IsWorld setup (LiveAtBoth t0) past) (lendings_are : HasLendings setup payload past)
    (known : s < setup.sockets) (place : Place) (free_at : IsFree setup payload A past place) (fresh_end : half A (pipe_of setup payload 1 s past) ≡ new_end setup.number (live_links (table_of A past)))
    (ob : Offer) (len : ℕ) (stands : StandsAt setup (Accepted ob) s past) (at : front payload B s past ≡ Whole (AcceptMessage ob) len) (step : clc_step setup payload A s (AcceptMessage ob) past ≡ SendConfirm false) where
  abbrev o : Offer
  o = new_offer setup payload A false the_link past

  abbrev here : Manager Half
  here = manager_of setup payload regions A past

  is-offer : IsOffer setup A false o
  is-offer = new-is-offer setup payload A false (LiveAtBoth t0) past place world.link free_at

  socket : IsJoining setup s past
  socket = joining setup s past ob stands

  place-is : next_free setup payload A past ≡ place
  place-is = ap (λ q. unwrap_or q (record { rmb = 0; index = 0 })) free_at.found

  offered-is : place ≡ offered_place o
  offered-is =
      ap (λ n. let q : Place = record { rmb = n; index = place.index } in q) (free_at.rmb ∙ sym (let i = is-offer in i.rmb))
      ∙ ap (λ (r : Place). let q : Place = record { rmb = rmb_at o.address; index = r.index } in q) (sym place-is)

  abbrev of-posts : ℕ → List Post → Entry
  of-posts a ps = entry-of a (Clc s B) Established ps

  link-then : (a : ℕ) → IsAtStage setup (LiveAtBoth t0) (later_entry a s o ∷ past)
  link-then a = let i = is-offer in
      link-moves setup (later_entry a s o) past (LiveAtBoth t0) (LiveAtBoth t0)
      (link-still setup a s B Established (ClcPost A s (Some the_link) (ConfirmMessage o) ∷ []) past (LiveAtBoth t0) world.link (still-confirm s past (fabric_at (LiveAtBoth t0)) o i.first_is)) world.link

  no-loss : (a : ℕ) (ps : List Post) (y : Side) (g : ℕ) → loses_group_with y g (of-posts a ps) past ≡ false
  no-loss a ps y g = same-group g (group_of y past) (group_of y past) refl

  -- the items
  up-here : (a : ℕ) (ps : List Post) → comes_up_with A s (of-posts a ps) past ≡ Some the_link
  up-here a ps = let k = socket in ap (λ b. option_or (if b then named_link s past else None) None) (eq-eqb s s refl) ∙ ap (λ q. option_or q None) k.named

  up-else : (a : ℕ) (ps : List Post) (t : ℕ) → (t == s) ≡ false → comes_up_with A t (of-posts a ps) past ≡ None
  up-else a ps t d = ap (λ b. option_or (if b then named_link t past else None) None) d

  no-end : (a : ℕ) (ps : List Post) (y : Side) (g : ℕ) → group_end y g (of-posts a ps) past ≡ []
  no-end a ps y g = ap (λ b. if b then GroupEnd y ∷ [] else []) (no-loss a ps y g)

  no-fates : (a : ℕ) (ps : List Post) (y : Side) (g : ℕ) → fates y g (of-posts a ps) past ≡ []
  no-fates a ps y g = let l = world.link in ap (λ f. filter_map (fate_of y g (peer y f).table) (peer y f).table) l.fabric_is ∙ one-fate y g (LiveAtBoth t0)

  items-by : (a : ℕ) (ps : List Post) (g t : ℕ) (us : List Item) → ups A t (of-posts a ps) past ≡ us → items payload g t (of-posts a ps) past ≡ reverse (us ++ []) ++ [] ++ []
  items-by a ps g t us u =
      items-are payload g t (of-posts a ps) past ∙ below-ups g t (of-posts a ps) past (us ++ []) (ap (λ (is : List Item). is ++ []) u) (λ y. no-end a ps y g) (λ y. no-fates a ps y g)

  items-here : (a : ℕ) (ps : List Post) (g : ℕ) → items payload g s (of-posts a ps) past ≡ Up A the_link ∷ []
  items-here a ps g = items-by a ps g s (Up A the_link ∷ []) (ap (λ q. option_to_list (option_map (Up A) q)) (up-here a ps))

  items-else : (a : ℕ) (ps : List Post) (g t : ℕ) → (t == s) ≡ false → items payload g t (of-posts a ps) past ≡ []
  items-else a ps g t d = items-by a ps g t [] (ap (λ q. option_to_list (option_map (Up A) q)) (up-else a ps t d))

  -- the pipes post nothing
  abbrev before : Side → ℕ → Half
  before y t = end_of setup payload y t past

  given-by : (ps : List Post) (y : Side) (t : ℕ) (is : List Item) → items payload (group_on t past) t (of-posts 0 ps) past ≡ is
      → posts_of (terms_of setup) y (items payload (group_on t past) t (of-posts 0 ps) past) (part payload (group_on t past) t past) ≡ sent_since (before y t) (half y (pipe (terms_of setup) (is ++ part payload (group_on t past) t past)))
  given-by ps y t is i = ap (λ (is : List Item). sent_since (before y t) (half y (pipe (terms_of setup) (is ++ part payload (group_on t past) t past)))) i

  silent-end : (ps : List Post) (y : Side) (t : ℕ) → posts_of (terms_of setup) y (items payload (group_on t past) t (of-posts 0 ps) past) (part payload (group_on t past) t past) ≡ [] → end_posts setup payload y t (of-posts 0 ps) past ≡ []
  silent-end ps y t i = ap (λ (ms : List SentMessage). flat_map (sent_posts (element_size setup) y (offered (other y) t past) (of-posts 0 ps ∷ past)) ms) i

  silent-else : (ps : List Post) (t : ℕ) → (t == s) ≡ false → pipe_posts setup payload t (of-posts 0 ps) past ≡ []
  silent-else ps t d =
      ap (λ (qs : List Post). qs ++ end_posts setup payload B t (of-posts 0 ps) past) (silent-end ps A t (none A)) ∙ silent-end ps B t (none B)
    where
      none : (y : Side) → posts_of (terms_of setup) y (items payload (group_on t past) t (of-posts 0 ps) past) (part payload (group_on t past) t past) ≡ []
      none y = given-by ps y t [] (items-else 0 ps (group_on t past) t d) ∙ (let h : Half = before y t in drop-length h.sent)

  silent-b : (ps : List Post) → end_posts setup payload B s (of-posts 0 ps) past ≡ []
  silent-b ps = silent-end ps B s
      (given-by ps B s (Up A the_link ∷ []) (items-here 0 ps (group_on s past))
      ∙ (ap (λ h. sent_since (before B s) h) (rests (terms_of setup) B (part payload (group_on s past) s past)) ∙ (let h : Half = before B s in drop-length h.sent)))

  group-is : group_on s past ≡ 1
  group-is = let k = socket in ap (λ q. unwrap_or (option_map (λ (link : LinkId). link.group) q) 0) k.named

  before-a : before A s ≡ new_end setup.number (live_links (table_of A past))
  before-a = ap (λ g. half A (pipe_of setup payload g s past)) group-is ∙ fresh_end

  silent-a : (ps : List Post) → end_posts setup payload A s (of-posts 0 ps) past ≡ []
  silent-a ps = silent-end ps A s
      (given-by ps A s (Up A the_link ∷ []) (items-here 0 ps (group_on s past))
      ∙ (sent-by setup.depth (before A s) (comes_up the_link (before A s)) refl
      ∙ (ap (λ h. if is_due setup.depth (comes_up the_link h) then batch (comes_up the_link h) ∷ [] else []) before-a
      ∙ ap (λ b. if b then batch (comes_up the_link (new_end setup.number (live_links (table_of A past)))) ∷ [] else []) (new-rests setup.depth setup.number (live_links (table_of A past)) the_link))))

  silent-now : (ps : List Post) → connection_posts setup payload (of-posts 0 ps) past ≡ []
  silent-now ps =
      met (λ t. pipe_posts setup payload t (of-posts 0 ps) past) (is_offered past) s (silent-else ps) 1 setup.sockets (ap (λ g. not (g == 0)) group-is) (omega arith) (omega arith) (omega (arith, known))
      ∙ (ap (λ (qs : List Post). qs ++ end_posts setup payload B s (of-posts 0 ps) past) (silent-a ps) ∙ silent-b ps)

  offer-same : offer_for false the_link here ≡ o
  offer-same =
      ap (λ (r : Place). offer setup A false the_link (pair_on A 1 past) (number_for (key_base A) r.rmb 1 (keys_of A past).keys) r (length (lendings A past) + 1))
      (ap (λ q. unwrap_or q (record { rmb = 0; index = 0 })) (free-place setup payload A past))

  module _ (actor n : ℕ) (posts : List Post) (played : IsPlayed setup payload (entry-of actor (Clc s B) Established posts ∷ past) n) (shaken : IsShaken setup (entry-of actor (Clc s B) Established posts ∷ past)) where
    asked-is : asked setup payload past (Clc s B) Established ≡ confirm_post setup payload s false the_link past ∷ []
    asked-is =
        ap (λ f. front_posts setup payload A s past f) at
        ∙ (ap (λ st. clc_posts setup payload A s (AcceptMessage ob) past st) step
        ∙ ap (λ q. confirm_post setup payload s false (unwrap_or q no_link) past ∷ []) (let k = socket in k.named))

    made-posts : posts ≡ confirm_post setup payload s false the_link past ∷ []
    made-posts =
        let m = played.1 in
        m.posts
        ∙ (ap (λ r. let q : Entry = record { actor = 0; event = Clc s B; reply = r; posts = asked setup payload past (Clc s B) r } in q.posts ++ connection_posts setup payload q past) (sym m.reply)
        ∙ (ap (λ (ps : List Post). ps ++ connection_posts setup payload (of-posts 0 ps) past) asked-is
        ∙ ap (λ (ps : List Post). (confirm_post setup payload s false the_link past ∷ []) ++ ps) (silent-now (confirm_post setup payload s false the_link past ∷ []))))

    played-now : IsPlayed setup payload (later_entry actor s o ∷ past) n
    played-now = subst (λ (ps : List Post). IsPlayed setup payload (entry-of actor (Clc s B) Established ps ∷ past) n) made-posts played

    shaken-now : IsShaken setup (later_entry actor s o ∷ past)
    shaken-now = subst (λ (ps : List Post). IsShaken setup (entry-of actor (Clc s B) Established ps ∷ past)) made-posts shaken

    free-is : head (free_places setup payload A past) ≡ Some (offered_place o)
    free-is = free_at.found ∙ ap (λ q. Some q) offered-is

    open-items : (g t : ℕ) → EachItem keeps_open (part payload g t (later_entry actor s o ∷ past))
    open-items g t = part-open setup payload g t (later_entry actor s o ∷ past) n played-now shaken-now

    confirmed-now : IsTakenBy setup payload regions A s (AcceptMessage ob) the_link (later_entry actor s o) past
    confirmed-now =
        let i = is-offer in
        let k = socket in
        let given : List Post = ClcPost A s (Some the_link) (ConfirmMessage o) ∷ [] in
        taken-by setup payload regions A s (AcceptMessage ob) the_link (SendConfirm false) (later_entry actor s o) past one.links known step
        (record {
          reply = refl;
          posts =
              ap (λ (q : Offer). ClcPost A s (Some the_link) (ConfirmMessage q) ∷ []) (sym offer-same)
              ∙ ap (λ (ps : List Post). (ClcPost A s (Some the_link) (ConfirmMessage (offer_for false the_link here)) ∷ []) ++ ps)
              (sym (later-rests setup payload regions past t0 s actor o ob i.first_is world.link (link-then actor) lendings_are known one.rmbs_a free-is i.rmb refl (stands.offer B) k.none_a k.waits (no-loss actor given) open-items (items-here actor given) (items-else actor given) fresh_end));
          own = later-own setup payload regions past t0 s actor o ob i.first_is world.link (link-then actor) lendings_are known one.rmbs_a free-is i.rmb refl (stands.offer B) k.none_a k.waits (no-loss actor given) open-items (items-here actor given) (items-else actor given) fresh_end;
        })
        (later-theirs setup payload regions past t0 s actor o ob i.first_is world.link (link-then actor) lendings_are known one.rmbs_a free-is i.rmb refl (stands.offer B) k.none_a k.waits (no-loss actor given) open-items (items-here actor given) (items-else actor given) fresh_end)
        (later-lendings setup payload regions past t0 s actor o ob i.first_is world.link (link-then actor) lendings_are known one.rmbs_a free-is i.rmb refl (stands.offer B) k.none_a k.waits (no-loss actor given) open-items (items-here actor given) (items-else actor given) fresh_end)

    pub later-confirmed : IsTakenBy setup payload regions A s (AcceptMessage ob) the_link (entry-of actor (Clc s B) Established posts) past
    later-confirmed = subst (λ (ps : List Post). IsTakenBy setup payload regions A s (AcceptMessage ob) the_link (entry-of actor (Clc s B) Established ps) past) (sym made-posts) confirmed-now
