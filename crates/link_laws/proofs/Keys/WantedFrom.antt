-- The links on whose slots a side has keys, after any entry: there before, or just made, told or begun.
use Rattle.std.proofs.Common.{Bool, List, None, Some, [], ap, eq-eqb, eqb-true, false, if◌then◌else◌, inl, inr, refl, subst, sym, true, true≢false, ℕ, ◌==◌, ◌∙◌, ◌∷◌, ◌≡◌, ◌⊎◌}
use Rattle.pipe_model.specs.Fabric.{does}
use Rattle.pipe_model.specs.declared.flow.FlowStep.TheVariants.{Answered, Confirmed, Live}
use Rattle.smc_num.specs.declared.LinkPhase.TheVariants.{Live as LiveLink}
use Rattle.history_laws.specs.Words.{A, Act, AddKeys, AddLink, AskLink, B, ConfirmLink, ConfirmRkey, DeleteLink, DeleteRkey, Echo, Entry, Fabric, Flow, FlowStep, Forget, Gone, Known, Learn, LinkId, LlcMessage, Offer, Over, Peer, Pending, Reject, ReplyAdd, ReplyKeys, ReplyRetry, Retry, SendKeys, Side, Skip, TestLink, Withdraw, act_in, after_answer, begins_group, fabric, flow_after, is_live, is_whole, link_at, llc_step, lowest_live, makes, named_slot, peer, phase_at, put, reports, set_phase, table_of, view_of, with_peer}
use Rattle.history_laws.proofs.Basics.{none-is, or-left, or-parts, or-true, some-is}
use Rattle.link_laws.specs.Covered.{NowBegun, NowMade, NowTold, OwedByFlows, Wanted, WasWanted, wants_keys}
use Rattle.link_laws.proofs.Keys.Wanted.{WasSo, flows-so, loses-so, reports-so}
use Rattle.link_laws.proofs.Sound.{put-link, put-phase, set-beside, set-link}
use Rattle.link_laws.specs.FabricChanges.{IsRequest, OffersFirst, is_keyed}
use Rattle.link_laws.proofs.Fabric.{StepsB, fabric-after, steps-b}

module _ (e : Entry) (past : List Entry) (j : ℕ) (owed : OwedByFlows e past) where
  abbrev f : Fabric
  f = fabric past

  abbrev P : Fabric → Type 0
  P g = (z : Side) (l : LinkId) → link_at j (peer z g).table ≡ Some l → wants_keys z j (peer z g) ≡ true → Wanted z e past j l

  was : P f
  was z l at w = WasWanted at w

  -- A changes alone, its links being those that it had
  at-a : (p : Peer) → ((l : LinkId) → link_at j p.table ≡ Some l → link_at j f.a.table ≡ Some l) → P (with_peer A p f)
  at-a p same A l at w = WasWanted (same l at) refl
  at-a p same B l at w = WasWanted at w

  -- B changes alone
  at-b : (p : Peer) → WasSo B j p f.b → P (with_peer B p f)
  at-b p so A l at w = WasWanted at w
  at-b p so B l at w = WasWanted (so.link l at) (so.wants w)

  -- a link is put on a slot
  put-in : (new : Known) (ks : List Known) (l : LinkId) → link_at j (put new ks) ≡ Some l → ((new.link.slot ≡ j) × (l ≡ new.link)) ⊎ (((new.link.slot == j) ≡ false) × (link_at j ks ≡ Some l))
  put-in new ks l at = by (new.link.slot == j) refl (sym (put-link j new ks) ∙ at)
    where
      by : (b : Bool) → (new.link.slot == j) ≡ b → (if b then Some new.link else link_at j ks) ≡ Some l → ((new.link.slot ≡ j) × (l ≡ new.link)) ⊎ (((new.link.slot == j) ≡ false) × (link_at j ks ≡ Some l))
      by true q at = inl (eqb-true new.link.slot j q, sym (some-is new.link l at))
      by false q at = inr (q, at)

  -- B gets a new link that is pending, its flow being the same
  b-beside : (link : LinkId) (flow : Flow) → flow.link ≡ f.b.flow.link → (link.slot == j) ≡ false → wants_keys B j (record f.b { table = put (record { link = link; phase = Pending }) f.b.table; flow = flow }) ≡ true → wants_keys B j f.b ≡ true
  b-beside link flow same other w = elim (or-parts (is_live (phase_at j (put (record { link = link; phase = Pending }) f.b.table))) (is_keyed j flow.link) w) [
    | inl h ↦ or-left (is_live (phase_at j f.b.table)) (is_keyed j f.b.flow.link) (ap is_live (sym (put-phase j (record { link = link; phase = Pending }) f.b.table ∙ ap (λ b. if b then Pending else phase_at j f.b.table) other)) ∙ h)
    | inr h ↦ or-true (is_live (phase_at j f.b.table)) (is_keyed j f.b.flow.link) (ap (λ k. is_keyed j k) (sym same) ∙ h)
  ]

  b-here : (link : LinkId) (flow : Flow) → link.slot ≡ j → wants_keys B j (record f.b { table = put (record { link = link; phase = Pending }) f.b.table; flow = flow }) ≡ true → is_keyed j flow.link ≡ true
  b-here link flow same w = elim (or-parts (is_live (phase_at j (put (record { link = link; phase = Pending }) f.b.table))) (is_keyed j flow.link) w) [
    | inl h ↦ absurd (true≢false (sym h ∙ ap is_live (put-phase j (record { link = link; phase = Pending }) f.b.table ∙ ap (λ b. if b then Pending else phase_at j f.b.table) (eq-eqb link.slot j same))))
    | inr h ↦ h
  ]

  begun-a : (link : LinkId) (o : Offer) → OffersFirst A e link o → ((x : Side) → act_in x e past ≡ None) → P (makes link (with_peer A (begins_group link.group) f))
  begun-a link o it n A l at w = elim (put-in (record { link = link; phase = Pending }) [] l at) [ inl h ↦ NowBegun o (subst (λ m. OffersFirst A e m o) (sym h.1) it) n | inr h ↦ absurd (none-is l h.1) ]
  begun-a link o it n B l at w = elim (put-in (record { link = link; phase = Pending }) f.b.table l at) [
    | inl h ↦ NowBegun o (subst (λ m. OffersFirst A e m o) (sym h.1) it) n
    | inr h ↦ WasWanted h.1 (b-beside link f.b.flow refl h.0 w)
  ]

  begun-b : (link : LinkId) (o : Offer) → OffersFirst B e link o → ((x : Side) → act_in x e past ≡ None) → P (with_peer B (begins_group link.group) f)
  begun-b link o it n A l at w = WasWanted at w
  begun-b link o it n B l at w = absurd (none-is l at)

  asked : (x : Side) (flow : Flow) (told : List LinkId) → IsRequest x flow (peer x f) → P (with_peer x (record (peer x f) { flow = flow; told = told }) f)
  asked A flow told r = at-a (record f.a { flow = flow; told = told }) (λ l at. at)
  asked B flow told r = at-b (record f.b { flow = flow; told = told }) (flows-so B j (record f.b { flow = flow; told = told }) f.b refl (r.keyed j))

  reported : (x : Side) (k : ℕ) → P (with_peer x (reports k (peer x f)) f)
  reported A k = at-a (reports k f.a) (reports-so A j k f.a).link
  reported B k = at-b (reports k f.b) (reports-so B j k f.b)

  -- an answer leaves the link flow
  answer-link : (m : LlcMessage) (landed : ℕ) (flow : Flow) → (after_answer m landed flow).link ≡ flow.link
  answer-link (ConfirmLink reply mac gid qp k user most) landed flow = refl
  answer-link (AddLink reply rejected reason mac gid qp k mtu psn) landed flow = refl
  answer-link (AddKeys reply k count keys) landed flow = refl
  answer-link (DeleteLink reply every orderly k reason) landed flow = refl
  answer-link (ConfirmRkey reply retry negative others tokens) landed flow = refl
  answer-link (TestLink reply bytes) landed flow = refl
  answer-link (DeleteRkey reply negative count mask keys) landed flow = refl

  flow-b : (flow : Flow) → (is_keyed j flow.link ≡ true → is_keyed j f.b.flow.link ≡ true) → P (with_peer B (record f.b { flow = flow }) f)
  flow-b flow keyed = at-b (record f.b { flow = flow }) (flows-so B j (record f.b { flow = flow }) f.b refl keyed)

  flow-a : (flow : Flow) → P (with_peer A (record f.a { flow = flow }) f)
  flow-a flow = at-a (record f.a { flow = flow }) (λ l at. at)

  never : false ≡ true → is_keyed j f.b.flow.link ≡ true
  never h = absurd (true≢false (sym h))

  -- A takes a message
  taken-a : (l : LinkId) (m : LlcMessage) (step : FlowStep) → act_in A e past ≡ Some (record { link = l; message = m; step = step }) → P (does A l m step f)
  taken-a l m Skip is = flow-a _
  taken-a l m (Live reply first) is = at-a _ (λ k at. sym (set-link j l.slot LiveLink f.a.table) ∙ at)
  taken-a l m SendKeys is = flow-a _
  taken-a l m Over is = flow-a _
  taken-a l m AskLink is = flow-a _
  taken-a l m (ReplyKeys known) is = flow-a _
  taken-a l m (ReplyAdd true) is = flow-a _
  taken-a l m (ReplyAdd false) is = made
    where
      made : P (does A l m (ReplyAdd false) f)
      made A k at w = elim (put-in (record { link = record { group = f.a.group; slot = named_slot m l.slot; incarnation = _ }; phase = Pending }) f.a.table k at) [
        | inl h ↦ NowMade (record { act = record { link = l; message = m; step = ReplyAdd false }; is = is; does = refl }) h.0
        | inr h ↦ WasWanted h.1 refl
      ]
      made B k at w = elim (put-in (record { link = record { group = f.a.group; slot = named_slot m l.slot; incarnation = _ }; phase = Pending }) f.b.table k at) [
        | inl h ↦ absurd (true≢false (sym (b-here _ f.b.flow h.0 w) ∙ (ap (λ i. is_keyed i f.b.flow.link) (sym h.0) ∙ owed.adding (record { act = record { link = l; message = m; step = ReplyAdd false }; is = is; does = refl }))))
        | inr h ↦ WasWanted h.1 (b-beside _ f.b.flow refl h.0 w)
      ]
  taken-a l m Reject is = flow-a _
  taken-a l m Confirmed is = flow-a _
  taken-a l m Retry is = flow-a _
  taken-a l m Withdraw is = flow-a _
  taken-a l m ReplyRetry is = flow-a _
  taken-a l m Learn is = flow-a _
  taken-a l m Forget is = flow-a _
  taken-a l m (Gone false) is = flow-a _
  taken-a l m (Gone true) is = at-a _ (loses-so A j (named_slot m l.slot) f.a).link
  taken-a l m Answered is = flow-a _
  taken-a l m Echo is = flow-a _

  -- B takes a message
  taken-b : (l : LinkId) (m : LlcMessage) (step : FlowStep) → act_in B e past ≡ Some (record { link = l; message = m; step = step }) → StepsB f.b.flow.link (named_slot m l.slot) step → P (does B l m step f)
  taken-b l m Skip is s = flow-b _ (λ h. h)
  taken-b l m (Live reply first) is s = at-b _ (record { link = λ k at. sym (set-link j l.slot LiveLink f.b.table) ∙ at; wants = live })
    where
      live : wants_keys B j (record f.b { table = set_phase l.slot LiveLink f.b.table; flow = flow_after (Live reply first) m l.slot (lowest_live f.b.table) f.b.flow }) ≡ true → wants_keys B j f.b ≡ true
      live w = by (j == l.slot) refl
        where
          by : (b : Bool) → (j == l.slot) ≡ b → wants_keys B j f.b ≡ true
          by true q = or-true (is_live (phase_at j f.b.table)) (is_keyed j f.b.flow.link) (ap (λ i. is_keyed i f.b.flow.link) (eqb-true j l.slot q) ∙ owed.confirming reply first (record { act = record { link = l; message = m; step = Live reply first }; is = is; does = refl }))
          by false q = elim (or-parts (is_live (phase_at j (set_phase l.slot LiveLink f.b.table))) false w) [
            | inl h ↦ or-left (is_live (phase_at j f.b.table)) (is_keyed j f.b.flow.link) (ap is_live (sym (set-beside j l.slot LiveLink f.b.table q)) ∙ h)
            | inr h ↦ absurd (true≢false (sym h))
          ]
  taken-b l m SendKeys is s = told
    where
      told : P (does B l m SendKeys f)
      told A k at w = WasWanted at w
      told B k at w = elim (or-parts (is_live (phase_at j f.b.table)) (named_slot m l.slot == j) w) [
        | inl h ↦ WasWanted at (or-left (is_live (phase_at j f.b.table)) (is_keyed j f.b.flow.link) h)
        | inr h ↦ NowTold (record { act = record { link = l; message = m; step = SendKeys }; is = is; does = refl }) (eqb-true (named_slot m l.slot) j h)
      ]
  taken-b l m Over is s = flow-b _ never
  taken-b l m AskLink is s = flow-b _ (λ h. ap (λ k. is_keyed j k) s.1 ∙ h)
  taken-b l m (ReplyKeys known) is s = flow-b _ (λ h. h)
  taken-b l m (ReplyAdd again) is s = absurd s
  taken-b l m Reject is s = flow-b _ (λ h. h)
  taken-b l m Confirmed is s = flow-b _ (λ h. h)
  taken-b l m Retry is s = flow-b _ (λ h. h)
  taken-b l m Withdraw is s = flow-b _ (λ h. h)
  taken-b l m ReplyRetry is s = flow-b _ (λ h. h)
  taken-b l m Learn is s = flow-b _ (λ h. h)
  taken-b l m Forget is s = flow-b _ (λ h. h)
  taken-b l m (Gone false) is s = flow-b _ (λ h. h)
  taken-b l m (Gone true) is s = at-b _ (loses-so B j (named_slot m l.slot) f.b)
  taken-b l m Answered is s = flow-b _ (λ h. ap (λ k. is_keyed j k) (sym (answer-link m l.slot f.b.flow)) ∙ h)
  taken-b l m Echo is s = flow-b _ (λ h. h)

  taken : (x : Side) (act : Act) → act_in x e past ≡ Some act → act.step ≡ llc_step x act.link act.message past f → P (does x act.link act.message act.step f)
  taken A act is by = taken-a act.link act.message act.step is
  taken B act is by = taken-b act.link act.message act.step is (subst (λ s. StepsB f.b.flow.link (named_slot act.message act.link.slot) s) (sym by) (steps-b f.b.flow act.message (view_of B (named_slot act.message act.link.slot) past f) act.link.slot (is_whole f.b)))

  -- all events together
  pub wanted-from : (z : Side) (l : LinkId) → link_at j (table_of z (e ∷ past)) ≡ Some l → wants_keys z j (peer z (fabric (e ∷ past))) ≡ true → Wanted z e past j l
  wanted-from = fabric-after e past P (record { was = was; begun_b = begun-b; begun_a = begun-a; asked = asked; taken = taken; reported = reported })
