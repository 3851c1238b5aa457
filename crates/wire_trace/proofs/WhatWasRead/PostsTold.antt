-- Posts that were read are told wholly: they can be written, and are read again.
use Rattle.std.proofs.Common.{◌≡◌, ◌∙◌, ℕ, ◌<◌, ◌^◌, ◌==◌, ◌&&◌, ◌||◌, nat_le, Bool, true, false, if◌then◌else◌, ◌⊎◌, inl, inr, List, length, Some, None, IfSome, Result, Ok, Err, IfOk, option_map, unwrap_or, bytes_eq, refl, sym, ap, subst}
use Rattle.std.proofs.lemmas.Bool.{and_parts, or_cases, leb-true, eqb-true, cond-true, cond-false, true≢false}
use Rattle.smc_num.specs.declared.LinkId.{LinkId}
use Rattle.clc_wire.specs.declared.message.ClcMessage.{ClcMessage}
use Rattle.clc_wire.specs.declared.fault.ClcFault.{ClcFault}
use Rattle.clc_wire.specs.Clc as clc
use Rattle.llc_wire.specs.declared.LlcMessage.{LlcMessage}
use Rattle.llc_wire.specs.declared.LlcFault.{LlcFault}
use Rattle.llc_wire.specs.Llc as llc
use Rattle.cdc_wire.specs.declared.CdcMessage.{CdcMessage}
use Rattle.cdc_wire.specs.declared.CdcFault.{CdcFault}
use Rattle.cdc_wire.specs.Cdc as cdc
use Rattle.pipe_model.specs.declared.post.Post.{Post}
use Rattle.pipe_model.specs.declared.post.Post.TheVariants.{Cdc, Llc, Clc}
use Rattle.wire_trace.specs.declared.head.Head.{Head}
use Rattle.wire_trace.specs.Heads.{is_link, is_no_link, allows_length}
use Rattle.wire_trace.specs.Messages.{side_of, link_named, if_spelled, clc_if, clc_in, llc_if, llc_in, cdc_if, cdc_in, write_in, post_in}
use Rattle.wire_trace.specs.Traced.{IsLink, IsTold}
use Rattle.wire_trace.proofs.WhatWasRead.Fitting.{AreSmall, number_low, clc_fits, llc_fits}
use Rattle.wire_trace.proofs.ReadAgain.{IsHead}
use Rattle.wire_trace.proofs.WhatWasRead.Spelled.{Allowed, made_of, clc_as}
use Rattle.wire_trace.proofs.WhatWasRead.MessagesTold.{LlcTold, llc_told, cdc_told, clc_told, no_prefix}

-- what holds of what was read
of_read : {T E : Type 0} (P : T → Type 0) (read : Result T E) (x : T) → read ≡ Ok x → IfOk read P → P x
of_read P read x e p = subst (λ r. IfOk r P) e p

-- the message that was read is the one that is spelled
same_spelled : {M : Type 0} (spelling : M → List ℕ) (bytes : List ℕ) (m n : M) → if_spelled spelling bytes m ≡ Some n → m ≡ n
same_spelled spelling bytes m n = by (bytes_eq (spelling m) bytes)
  where
    by : (b : Bool) → (if b then Some m else None) ≡ Some n → m ≡ n
    by true e = ap (λ o. unwrap_or o m) e
    by false e = absurd (cc)

clc_found : (bytes : List ℕ) (read : Result (ClcMessage × ℕ) ClcFault) (m : ClcMessage) → clc_if bytes read ≡ Some m → (n : ℕ) × (read ≡ Ok (m, n))
clc_found bytes (Ok found) m e = (found.1, (λ i. Ok (same_spelled clc.clc_bytes bytes found.0 m e i, found.1)))
clc_found bytes (Err fault) m e = absurd (cc)

llc_found : (bytes : List ℕ) (read : Result LlcMessage LlcFault) (m : LlcMessage) → llc_if bytes read ≡ Some m → read ≡ Ok m
llc_found bytes (Ok found) m e = ap Ok (same_spelled llc.llc_bytes bytes found m e)
llc_found bytes (Err fault) m e = absurd (cc)

cdc_found : (bytes : List ℕ) (read : Result CdcMessage CdcFault) (m : CdcMessage) → cdc_if bytes read ≡ Some m → read ≡ Ok m
cdc_found bytes (Ok found) m e = ap Ok (same_spelled cdc.cdc_bytes bytes found m e)
cdc_found bytes (Err fault) m e = absurd (cc)

-- the name of a link
link_of : (link : LinkId) → is_link link ≡ true → link.group < 2 ^ 32 → link.incarnation < 2 ^ 32 → IsLink link
link_of link e g i =
    let all = and_parts ((nat_le 1 link.slot && nat_le link.slot 8) && nat_le 1 link.group) (nat_le 1 link.incarnation) e in
    let three = and_parts (nat_le 1 link.slot && nat_le link.slot 8) (nat_le 1 link.group) all.0 in
    let two = and_parts (nat_le 1 link.slot) (nat_le link.slot 8) three.0 in
    record {
      slot_low = leb-true 1 link.slot two.0;
      slot_high = leb-true link.slot 8 two.1;
      group_low = leb-true 1 link.group three.1;
      group_high = g;
      incarnation_low = leb-true 1 link.incarnation all.1;
      incarnation_high = i;
    }

named_link : (link : LinkId) → (is_link link || is_no_link link) ≡ true → link.group < 2 ^ 32 → link.incarnation < 2 ^ 32 → IfSome (link_named link) IsLink
named_link link e g i = by (is_no_link link) refl
  where
    by_cases : is_no_link link ≡ false → (is_link link ≡ true) ⊎ (is_no_link link ≡ true) → IsLink link
    by_cases f (inl is) = link_of link is g i
    by_cases f (inr none) = absurd (true≢false (sym none ∙ f))

    by : (b : Bool) → is_no_link link ≡ b → IfSome (if b then None else Some link) IsLink
    by true f = tt
    by false f = by_cases f (or_cases (is_link link) (is_no_link link) e)

module _ (h : Head) (bytes : List ℕ) (post : Post) (a : Allowed h) (wide : IsHead h) (small : AreSmall bytes) where
  clc_link : (h.kind == 1) ≡ true → IfSome (link_named h.link) IsLink
  clc_link k = named_link h.link (sym (cond-true (h.kind == 1) (is_link h.link || is_no_link h.link) (is_link h.link && (h.socket == 0)) k) ∙ a.link) wide.group wide.incarnation

  other_link : (h.kind == 1) ≡ false → IsLink h.link
  other_link k =
      let both = and_parts (is_link h.link) (h.socket == 0) (sym (cond-false (h.kind == 1) (is_link h.link || is_no_link h.link) (is_link h.link && (h.socket == 0)) k) ∙ a.link) in
      link_of h.link both.0 wide.group wide.incarnation

  clc_post : (h.kind == 1) ≡ true → option_map (λ m. Clc (side_of h.side) h.socket (link_named h.link) m) (clc_in bytes) ≡ Some post → IsTold post
  clc_post k e =
      let made = made_of (λ m. Clc (side_of h.side) h.socket (link_named h.link) m) (clc_in bytes) post e in
      let m = made.0 in
      let found = clc_found bytes (clc.clc_front bytes) m made.1 in
      let is = of_read (λ (x : ClcMessage × ℕ). clc.IsMessage x.0) (clc.clc_front bytes) (m, found.0) found.1 (clc_told bytes small) in
      let fits = of_read (λ (x : ClcMessage × ℕ). clc.Fits x.0) (clc.clc_front bytes) (m, found.0) found.1 (clc_fits bytes small) in
      let again = ap clc.clc_front (clc_as bytes (clc.clc_front bytes) m made.1) ∙ found.1 in
      subst IsTold made.2 (wide.socket, clc_link k, is, fits, no_prefix m found.0 is again)

  llc_post : (h.kind == 1) ≡ false → length bytes ≡ 44 → option_map (λ m. Llc (side_of h.side) h.link m) (llc_in bytes) ≡ Some post → IsTold post
  llc_post k whole e =
      let made = made_of (λ m. Llc (side_of h.side) h.link m) (llc_in bytes) post e in
      let found = llc_found bytes (llc.llc_read bytes) made.0 made.1 in
      let told = of_read LlcTold (llc.llc_read bytes) made.0 found (llc_told bytes small whole) in
      subst IsTold made.2 (other_link k, told.0, of_read llc.Fits (llc.llc_read bytes) made.0 found (llc_fits bytes small), told.1)

  cdc_post : (h.kind == 1) ≡ false → option_map (λ m. Cdc (side_of h.side) h.link m) (cdc_in bytes) ≡ Some post → IsTold post
  cdc_post k e =
      let made = made_of (λ m. Cdc (side_of h.side) h.link m) (cdc_in bytes) post e in
      let found = cdc_found bytes (cdc.cdc_read bytes) made.0 made.1 in
      subst IsTold made.2 (other_link k, of_read cdc.IsMessage (cdc.cdc_read bytes) made.0 found (cdc_told bytes small))

  write_post : (h.kind == 1) ≡ false → Some (write_in h bytes) ≡ Some post → IsTold post
  write_post k e =
      subst IsTold (ap (λ o. unwrap_or o post) e) (other_link k, number_low 4 0 bytes small, number_low 8 4 bytes small, number_low 4 12 bytes small)

llc_len : (h : Head) → Allowed h → h.kind ≡ 2 → h.len ≡ 44
llc_len h a k = eqb-true h.len 44 (sym (ap (λ n. allows_length n h.len) k) ∙ a.len)

pub post_told : (h : Head) (bytes : List ℕ) (post : Post) → Allowed h → IsHead h → AreSmall bytes → length bytes ≡ h.len → post_in h bytes ≡ Some post → IsTold post
unfolding post_in
post_told h bytes post a wide small long = by (h.kind == 1) (h.kind == 2) (h.kind == 3) refl refl
  where
    by : (b c d : Bool) → (h.kind == 1) ≡ b → (h.kind == 2) ≡ c
        → (if b then option_map (λ m. Clc (side_of h.side) h.socket (link_named h.link) m) (clc_in bytes) else
        if c then option_map (λ m. Llc (side_of h.side) h.link m) (llc_in bytes) else
        if d then option_map (λ m. Cdc (side_of h.side) h.link m) (cdc_in bytes) else Some (write_in h bytes)) ≡ Some post
        → IsTold post
    by true c d e f r = clc_post h bytes post a wide small e r
    by false true d e f r = llc_post h bytes post a wide small e (long ∙ llc_len h a (eqb-true h.kind 2 f)) r
    by false false true e f r = cdc_post h bytes post a wide small e r
    by false false false e f r = write_post h bytes post a wide small e r
