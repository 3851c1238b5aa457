-- No end of a lending is ever over, so that each offered element stays lent; and no CDC message is dropped.
use Rattle.std.proofs.Common.{◌≡◌, ◌∙◌, ℕ, Bool, true, false, List, [], ◌∷◌, refl, ap, sym}
use Rattle.std.specs.Prelude.{Some}
use Rattle.smc_num.specs.declared.Side.{Side}
use Rattle.smc_num.specs.declared.LinkId.{LinkId}
use Rattle.smc_num.specs.Names.{other}
use Rattle.cdc_wire.specs.declared.CdcMessage.{CdcMessage}
use Rattle.pipe_model.specs.declared.setup.Setup.{Setup}
use Rattle.pipe_model.specs.declared.sent.Sent.{Sent}
use Rattle.pipe_model.specs.declared.post.Post.TheVariants.{Cdc}
use Rattle.pipe_model.specs.declared.post.Placed.{Placed}
use Rattle.pipe_model.specs.declared.entry.Entry.{Entry}
use Rattle.pipe_model.specs.History.{Offered}
use Rattle.pipe_model.specs.Wires.{unlanded}
use Rattle.pipe_model.specs.Ends.{Half}
use Rattle.pipe_model.specs.Pipe.{half}
use Rattle.pipe_model.specs.Connections.{is_up, group_on, part}
use Rattle.pipe_model.specs.Lending.{terms_of, pipe_of, record_of}
use Rattle.pipe_model.specs.Fallback.{is_fallen_state, is_fallen}
use Rattle.world_core.specs.Played.{IsOneLink, IsPlayed}
use Rattle.world_core.specs.OneLink.{the_link}
use Rattle.world_core.specs.Sockets.{Socket, FirstUp, Up, end_at, up_at, on_link}
use Rattle.world_core.specs.Lent.{WasNeverOver}
use Rattle.world_core.specs.Agreement.{Spelling, NamesRecord, next_to_land}
use Rattle.world_core.proofs.OpenEnds.{never-over}
use Rattle.world_core.proofs.Parts.{part-open}
use Rattle.world_core.proofs.TakenMessages.{end-is}
use Rattle.world_core.proofs.PlayedWorlds.{played}
use Rattle.world_core.proofs.Pipes.{has-pipe}
use Rattle.world_core.proofs.Heads.{lands-spelled}
use Rattle.world_core.proofs.Records.{still-lent}
use Rattle.world_core.proofs.Handshaken.{shaken, has-offers}
use Rattle.world_core.proofs.LinkFacts.{by-up}
use Rattle.world_core.proofs.QuietEvents.{by-side}
use Rattle.world_core.proofs.Agreement.{none-first}

-- where one end is up, its peer has not fallen back
not-fallen : (k : Socket) (x : Side) → up_at k x ≡ true → is_fallen_state (end_at k (other x)) ≡ false
not-fallen =
    by-up (λ k y. is_fallen_state (end_at k (other y)) ≡ false) (λ o p. refl) (λ o p. by-side (λ y. is_fallen_state (end_at (FirstUp o p) (other y)) ≡ false) refl refl) (λ o p. refl)
    (λ o p. by-side (λ y. is_fallen_state (end_at (Up o p) (other y)) ≡ false) refl refl)

module _ (setup : Setup) (one : IsOneLink setup) (payload : List ℕ) where
  pub was-never-over : (past : List Entry) (n : ℕ) → IsPlayed setup payload past n → (x : Side) → WasNeverOver setup payload x past
  was-never-over [] n p x = tt
  was-never-over (e ∷ past) n p x = (
    λ s o f. never-over (terms_of setup) x (part payload 1 s (e ∷ past)) (part-open setup payload 1 s (e ∷ past) n p (shaken setup one payload (e ∷ past) n p)),
    was-never-over past p.0 p.3 x,
  )

  -- the peer of an end that is up has not fallen back
  pub peer-not-fallen : (past : List Entry) (n : ℕ) → IsPlayed setup payload past n → (x : Side) (s : ℕ) → is_up x s past ≡ true → is_fallen (other x) s past ≡ false
  peer-not-fallen past n p x s u =
      let w = played setup one payload past n p in
      let world = w.world in
      let h = world.sockets s in
      let at = h.stands in
      ap (λ state. is_fallen_state state) (end-is setup h.at s past at (other x)) ∙ not-fallen h.at x (sym (at.up x) ∙ u)

  -- an end with something to land is up
  sends-up : (past : List Entry) (n : ℕ) → IsPlayed setup payload past n → (x : Side) (s : ℕ) (m : Sent) → next_to_land (half x (pipe_of setup payload (group_on s past) s past)) ≡ Some m → (u : Bool) → is_up x s past ≡ u → u ≡ true
  sends-up past n p x s m e true f = refl
  sends-up past n p x s m e false f =
      let q = has-pipe setup payload s past n p (shaken setup one payload past n p) in
      let h : Half = half x (pipe_of setup payload (group_on s past) s past) in
      absurd (none-first m h.sent h.landed e (q.idle x f))

  on-link-is : (o : Offered) → o.link ≡ the_link → Some o ≡ on_link o.offer
  on-link-is o e = ap (λ l. Some (record { link = l; offer = o.offer })) e

  -- the token of a CDC message that lands names a record that stands
  pub names-record : (past : List Entry) (n : ℕ) → IsPlayed setup payload past n → (x : Side) (c : Placed) (rest : List Placed) (from : Side) (l : LinkId) (m : CdcMessage) → unlanded the_link x past ≡ c ∷ rest → c.post ≡ Cdc from l m → NamesRecord setup payload x past m
  names-record past n p x c rest from l m q e =
      let sp : Spelling setup payload x past m next_to_land = lands-spelled setup payload x past n p (shaken setup one payload past n p) c rest from l m q e in
      let o = sp.offer in
      let offers = has-offers setup one payload past n p in
      let up : is_up x sp.s past ≡ true = sends-up past n p x sp.s sp.sent sp.sent_is (is_up x sp.s past) refl in
      let there = sp.offered_is ∙ on-link-is o (offers.link (other x) sp.s o sp.offered_is) in
      let r = still-lent setup one payload past n p (other x) (was-never-over past n p (other x)) sp.s o.offer there (peer-not-fallen past n p x sp.s up) in
      record { spelling = sp; named = ap (λ t. record_of setup payload (other x) t past) sp.token ∙ r.1 }
