-- What an entry does to a side: its group stays, and phases change or a link is made on a slot without a live one; or its group ends; or it
-- begins one, with no live link.
use Rattle.std.proofs.Common.{Bool, List, [], ap, false, if◌then◌else◌, inl, inr, map, not, refl, subst, sym, true, ℕ, ◌&&◌, ◌==◌, ◌||◌, ◌∙◌, ◌∷◌, ◌≡◌, ◌⊎◌}
use Rattle.pipe_model.specs.Flows.{LinkSent}
use Rattle.pipe_model.specs.declared.flow.FlowStep.TheVariants.{Confirmed, Live}
use Rattle.pipe_model.specs.declared.flow.KeyPhase.TheVariants.{Asked, Free as FreeKey, Retry as RetryWaits}
use Rattle.pipe_model.specs.Fabric.{does, loses}
use Rattle.smc_num.specs.declared.LinkPhase.TheVariants.{Live as LiveLink}
use Rattle.history_laws.specs.Words.{A, Abandoned, AddKeys, AddLink, AddSeen, AddSent, B, ConfirmLink, ConfirmRkey, Dead, DeleteLink, DeleteRkey, Deleting, Entry, Fabric, FirstContact, Flow, FlowStep, Gone, KeyPhase, KeysSent, Known, LinkFlow, LinkId, LinkPhase, LinkView, LlcMessage, NoFlow, Offer, Peer, Pending, Reject, ReplyAdd, Retry, Side, Skip, TestLink, begins_drop, begins_group, ends_group, fabric, flow_after, flow_step, goes_on, is_live, is_standing, is_whole, live_links, llc_step, lowest_live, makes, named_slot, on_add_keys, on_add_link, on_confirm_link, on_confirm_rkey, on_confirm_rkey_reply, on_delete_rkey_reply, on_new_link, peer, phase_at, put, reports, set_phase, stands, view_of, with_flow, with_peer, with_phase, without_slot}
use Rattle.history_laws.proofs.Basics.{standing-live}
use Rattle.link_laws.specs.FabricChanges.{OffersFirst}
use Rattle.link_laws.proofs.Lasting.Fates.{NoneLiveOf}
use Rattle.link_laws.proofs.Lasting.EachEntry.{Entered}
use Rattle.link_laws.proofs.Fabric.{StepsB, fabric-after, steps-b}
use Rattle.link_laws.proofs.Lasting.Links.{put-there}

-- a link is made only where none stands on its slot, at neither side
abbrev Free : LinkView → FlowStep → Type 0
Free view (ReplyAdd false) = (view.stands_here ≡ false) × (view.stands_there ≡ false)
Free view step = Unit {0}

free-if : (view : LinkView) (b : Bool) (s t : FlowStep) → Free view s → Free view t → Free view (if b then s else t)
free-if view true s t p q = p
free-if view false s t p q = q

new-free : (view : LinkView) → Free view (on_new_link view)
new-free view = by (not view.path_up) view.stands_here view.stands_there refl refl
  where
    by : (a b c : Bool) → view.stands_here ≡ b → view.stands_there ≡ c → Free view (if a || (b || c) then Reject else ReplyAdd false)
    by true b c p q = tt
    by false true c p q = tt
    by false false true p q = tt
    by false false false p q = (p, q)

add-free : (view : LinkView) (j : ℕ) (flow : LinkFlow) → Free view (on_add_link j view flow)
add-free view j FirstContact = tt
add-free view j (AddSeen k) = free-if view ((j == k) && (view.stands_here && view.stands_there)) (ReplyAdd true) (on_new_link view) tt (new-free view)
add-free view j NoFlow = new-free view
add-free view j (AddSent k on) = new-free view
add-free view j (KeysSent k on) = new-free view
add-free view j (LinkSent k) = new-free view
add-free view j (Abandoned on) = new-free view

confirm-free : (view : LinkView) (j : ℕ) (flow : LinkFlow) → Free view (on_confirm_link j flow)
confirm-free view j FirstContact = tt
confirm-free view j (AddSeen k) = free-if view (j == k) (Live true false) Skip tt tt
confirm-free view j NoFlow = tt
confirm-free view j (AddSent k on) = tt
confirm-free view j (KeysSent k on) = tt
confirm-free view j (LinkSent k) = tt
confirm-free view j (Abandoned on) = tt

keys-free : (view : LinkView) (j : ℕ) (flow : LinkFlow) → Free view (on_add_keys j flow)
keys-free view j FirstContact = tt
keys-free view j (AddSeen k) = tt
keys-free view j NoFlow = tt
keys-free view j (AddSent k on) = tt
keys-free view j (KeysSent k on) = tt
keys-free view j (LinkSent k) = tt
keys-free view j (Abandoned on) = tt

rkey-free : (view : LinkView) (flow : LinkFlow) → Free view (on_confirm_rkey A flow)
rkey-free view FirstContact = tt
rkey-free view (AddSeen k) = tt
rkey-free view NoFlow = tt
rkey-free view (AddSent k on) = tt
rkey-free view (KeysSent k on) = tt
rkey-free view (LinkSent k) = tt
rkey-free view (Abandoned on) = tt

reply-free : (view : LinkView) (retry whole : Bool) (phase : KeyPhase) → Free view (on_confirm_rkey_reply retry whole phase)
reply-free view retry whole Asked = free-if view (not retry && whole) Confirmed Retry tt tt
reply-free view retry whole FreeKey = tt
reply-free view retry whole RetryWaits = tt
reply-free view retry whole Deleting = tt

delete-free : (view : LinkView) (phase : KeyPhase) → Free view (on_delete_rkey_reply phase)
delete-free view FreeKey = tt
delete-free view Asked = tt
delete-free view RetryWaits = tt
delete-free view Deleting = tt

free-a : (f : Flow) (m : LlcMessage) (view : LinkView) (landed : ℕ) (whole : Bool) → Free view (flow_step A f m view landed whole)
free-a f (ConfirmLink false mac gid qp k user most) view landed whole = confirm-free view landed f.link
free-a f (ConfirmLink true mac gid qp k user most) view landed whole = tt
free-a f (AddLink false rejected reason mac gid qp k mtu psn) view landed whole = add-free view k f.link
free-a f (AddLink true true reason mac gid qp k mtu psn) view landed whole = tt
free-a f (AddLink true false reason mac gid qp k mtu psn) view landed whole = tt
free-a f (AddKeys false k count keys) view landed whole = keys-free view k f.link
free-a f (AddKeys true k count keys) view landed whole = tt
free-a f (DeleteLink false every orderly k reason) view landed whole = tt
free-a f (DeleteLink true every orderly k reason) view landed whole = tt
free-a f (ConfirmRkey false retry negative others tokens) view landed whole = rkey-free view f.link
free-a f (ConfirmRkey true retry negative others tokens) view landed whole = reply-free view retry whole f.key
free-a f (TestLink false bytes) view landed whole = tt
free-a f (TestLink true bytes) view landed whole = tt
free-a f (DeleteRkey false negative count mask keys) view landed whole = tt
free-a f (DeleteRkey true negative count mask keys) view landed whole = delete-free view f.key

-- how a table changes while the group stays
pub data Changed (t u : List Known) : Type 0 where
  ByPhase : (f : Known → Known) → ((n : Known) → (f n).link ≡ n.link) → ((n : Known) → is_live n.phase ≡ true → (is_live (f n).phase ≡ true) ⊎ ((f n).phase ≡ Dead)) → u ≡ map f t → Changed t u
  ByPut : (link : LinkId) → is_live (phase_at link.slot t) ≡ false → u ≡ put (record { link = link; phase = Pending }) t → Changed t u

-- what an entry does to a side
pub data Shape (x : Side) (e : Entry) (p q : Peer) : Type 0 where
  Stays : q.group ≡ p.group → Changed p.table q.table → Shape x e p q
  EndsHere : q.group ≡ 0 → Shape x e p q
  Starts : (link : LinkId) (o : Offer) → OffersFirst x e link o → q.group ≡ link.group → live_links q.table ≡ [] → ((g : ℕ) → NoneLiveOf g q.table) → (x ≡ A → stands link q.table ≡ true) → Shape x e p q

map-same : (t : List Known) → t ≡ map (λ n. n) t
map-same [] = refl
map-same (n ∷ t) = ap (λ u. n ∷ u) (map-same t)

unchanged : (t : List Known) → Changed t t
unchanged t = ByPhase (λ n. n) (λ n. refl) (λ n l. inl l) (map-same t)

phased : (k : ℕ) (phase : LinkPhase) → (is_live phase ≡ true) ⊎ (phase ≡ Dead) → (t : List Known) → Changed t (set_phase k phase t)
phased k phase h t = ByPhase (with_phase k phase) (λ n. link n (n.link.slot == k)) (λ n l. by n l (n.link.slot == k)) refl
  where
    link : (n : Known) (b : Bool) → (if b then record n { phase = phase } else n).link ≡ n.link
    link n true = refl
    link n false = refl

    by : (n : Known) → is_live n.phase ≡ true → (b : Bool) → (is_live (if b then record n { phase = phase } else n).phase ≡ true) ⊎ ((if b then record n { phase = phase } else n).phase ≡ Dead)
    by n l true = h
    by n l false = inl l

module _ (e : Entry) (past : List Entry) (it : Entered e past) where
  abbrev f : Fabric
  f = fabric past

  kept : (p q : Peer) (x : Side) → q.group ≡ p.group → q.table ≡ p.table → Shape x e p q
  kept p q x g t = Stays g (subst (λ u. Changed p.table u) (sym t) (unchanged p.table))

  lost : (x : Side) (k : ℕ) (p : Peer) → Shape x e p (loses k p)
  lost x k p = by (lowest_live (set_phase k Dead p.table) == 0)
    where
      by : (b : Bool) → Shape x e p (if b then ends_group (without_slot k p) else goes_on k (without_slot k p))
      by true = EndsHere refl
      by false = Stays refl (phased k Dead (inr refl) p.table)

  reported : (x : Side) (k : ℕ) (p : Peer) → Shape x e p (reports k p)
  reported x k p = by (loses k p) ((loses k p).group == 0) (lost x k p)
    where
      by : (q : Peer) (b : Bool) → Shape x e p q → Shape x e p (if b then q else with_flow (begins_drop k (lowest_live q.table)) q)
      by q true s = s
      by q false (Stays g c) = Stays g c
      by q false (EndsHere g) = EndsHere g
      by q false (Starts link o i g n l k) = Starts link o i g n l k

  -- a shape that differs in flows alone
  flowed : (x : Side) (p r q : Peer) → r.group ≡ p.group → r.table ≡ p.table → Shape x e r q → Shape x e p q
  flowed x p r q g t (Stays h c) = Stays (h ∙ g) (subst (λ u. Changed u q.table) t c)
  flowed x p r q g t (EndsHere h) = EndsHere h
  flowed x p r q g t (Starts link o i h n l k) = Starts link o i h n l k

  alone : (y : Side) (q : Peer) → Shape y e (peer y f) q → (x : Side) → Shape x e (peer x f) (peer x (with_peer y q f))
  alone A q s A = s
  alone A q s B = kept f.b f.b B refl refl
  alone B q s A = kept f.a f.a A refl refl
  alone B q s B = s

  stepped : (y : Side) (l : LinkId) (m : LlcMessage) (step : FlowStep) → step ≡ llc_step y l m past f → (x : Side) → Shape x e (peer x f) (peer x (does y l m step f))
  stepped y l m step is = by step is
    where
      flows : (y : Side) (change : Flow → Flow) → (x : Side) → Shape x e (peer x f) (peer x (with_peer y (with_flow change (peer y f)) f))
      flows y change = alone y (with_flow change (peer y f)) (kept (peer y f) (with_flow change (peer y f)) y refl refl)

      live : (y : Side) (reply first : Bool) → (x : Side) → Shape x e (peer x f) (peer x (does y l m (Live reply first) f))
      live A reply first = alone A _ (Stays refl (phased l.slot LiveLink (inl refl) f.a.table))
      live B reply first = alone B _ (Stays refl (phased l.slot LiveLink (inl refl) f.b.table))

      gone : (y : Side) → (x : Side) → Shape x e (peer x f) (peer x (does y l m (Gone true) f))
      gone A = alone A _ (flowed A f.a _ _ refl refl (lost A (named_slot m l.slot) (with_flow (flow_after (Gone true) m l.slot (lowest_live f.a.table)) f.a)))
      gone B = alone B _ (flowed B f.b _ _ refl refl (lost B (named_slot m l.slot) (with_flow (flow_after (Gone true) m l.slot (lowest_live f.b.table)) f.b)))

      adds : (y : Side) → ReplyAdd false ≡ llc_step y l m past f → (x : Side) → Shape x e (peer x f) (peer x (does y l m (ReplyAdd false) f))
      adds A is x = let free = subst (λ w. Free (view_of A (named_slot m l.slot) past f) w) (sym is) (free-a f.a.flow m (view_of A (named_slot m l.slot) past f) l.slot (is_whole f.a)) in at x free.0 free.1
        where
          at : (x : Side) → is_standing (phase_at (named_slot m l.slot) f.a.table) ≡ false → is_standing (phase_at (named_slot m l.slot) f.b.table) ≡ false → Shape x e (peer x f) (peer x (does A l m (ReplyAdd false) f))
          at A p q = Stays refl (ByPut _ (standing-live (phase_at (named_slot m l.slot) f.a.table) p) refl)
          at B p q = Stays refl (ByPut _ (standing-live (phase_at (named_slot m l.slot) f.b.table) q) refl)
      adds B is x = absurd (subst (λ w. StepsB f.b.flow.link (named_slot m l.slot) w) (sym is) (steps-b f.b.flow m (view_of B (named_slot m l.slot) past f) l.slot (is_whole f.b)))

      by : (step : FlowStep) → step ≡ llc_step y l m past f → (x : Side) → Shape x e (peer x f) (peer x (does y l m step f))
      by (Live reply first) is = live y reply first
      by (ReplyAdd false) is = adds y is
      by (ReplyAdd true) is = flows y (flow_after (ReplyAdd true) m l.slot (lowest_live (peer y f).table))
      by (Gone true) is = gone y
      by (Gone false) is = flows y (flow_after (Gone false) m l.slot (lowest_live (peer y f).table))
      by step is = flows y (flow_after step m l.slot (lowest_live (peer y f).table))

  begun-a : (link : LinkId) (o : Offer) → OffersFirst A e link o → (x : Side) → Shape x e (peer x f) (peer x (makes link (with_peer A (begins_group link.group) f)))
  begun-a link o i A = Starts link o i refl refl (λ g. (λ e. refl, tt)) (λ k. put-there link [])
  begun-a link o i B = Stays refl (ByPut link (let j = it.joins link o i in ap (λ t. is_live (phase_at link.slot t)) j.table) refl)

  -- after any entry
  pub shapes : (x : Side) → Shape x e (peer x f) (peer x (fabric (e ∷ past)))
  shapes = fabric-after e past (λ g. (x : Side) → Shape x e (peer x f) (peer x g)) (record {
    was = λ x. kept (peer x f) (peer x f) x refl refl;
    begun_b = λ link o i n. alone B (begins_group link.group) (Starts link o i refl refl (λ g. tt) (λ k. (let w : B ≡ A = k in cc)));
    begun_a = λ link o i n. begun-a link o i;
    asked = λ y flow told r. alone y (record (peer y f) { flow = flow; told = told }) (kept (peer y f) (record (peer y f) { flow = flow; told = told }) y refl refl);
    taken = λ y act is q. stepped y act.link act.message act.step q;
    reported = λ y k. alone y (reports k (peer y f)) (reported y k (peer y f));
  })
