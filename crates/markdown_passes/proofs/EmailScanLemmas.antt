-- what is kept of the codes before an `@`, code by code
use Rattle.std.proofs.Common.{◌≡◌, ℕ, ◌<◌, ◌==◌, ◌&&◌, ◌||◌, not, Bool, true, false, if◌then◌else◌, Some, List, [], ◌∷◌, ◌++◌, length, reverse, refl, sym, ap, subst, ◌∙◌}
use Rattle.std.specs.Prelude.{codes}
use Rattle.std.proofs.lemmas.List.{reverse-append, reverse-reverse}
use Rattle.markdown_plan.specs.ByteTests.{alphanumeric_value}
use Rattle.markdown_content.specs.Codes.{Code, stop_of}
use Rattle.markdown_content.specs.DocumentWalk.{IsPoint, next_point, value_from}
use Rattle.markdown_event.specs.declared.event.Name.{Name}
use Rattle.markdown_event.specs.declared.event.Name.TheVariants as N
use Rattle.markdown_event.specs.declared.event.Point.{Point}
use Rattle.markdown_content.proofs.DocumentPlaces.{stop-more}
use Rattle.markdown_content.proofs.DocumentCodes.{code_here, stop_at}
use Rattle.markdown_model.specs.CodeTests.{is_value, is_among, is_empty, next_is, is_alphanumeric}
use Rattle.markdown_model.specs.GfmEmailLiteral.{is_local, is_word, email_protocol}
use Rattle.markdown_model.specs.Grammar.{span}
use Rattle.markdown_model.proofs.LeafCodes.{span-append}
use Rattle.markdown_model.proofs.GrammarSteps.{span-takes, span-none}
use Rattle.markdown_passes.specs.TrimmedData.{between, IsStretch}
use Rattle.markdown_passes.proofs.TrimmedLeaves.{IsSplitInTwo, split}
use Rattle.markdown_passes.specs.EmailScan.{local_value, is_email, word_name, scan_of, scan_at}
use Rattle.markdown_passes.specs.declared.literal.Scan.{Scan}
use Rattle.markdown_passes.proofs.StretchesInOrder.{none-self, IsLonger, longer}

abbrev Spanned : Type 0
Spanned = List Code × List Code

pub scan-start : (bytes : List ℕ) (p : Point) → IsPoint bytes p →
    scan_at bytes p p ≡ record { from = p; point = p; word = p; local = false; after_slash = false; name = N.GfmAutolinkLiteralEmail; start = p }
unfolding scan_at scan_of email_protocol
scan-start bytes p h = ap (λ cs. scan_of p p (reverse cs)) (none-self bytes p h)

stop-last : (p : Point) (c : Code) (before : List Code) → stop_of p (reverse (c ∷ before)) ≡ c.stop
stop-last p c before = ap (stop_of p) (reverse-append (c ∷ []) before) ∙ stop-more p (reverse before) c

-- A code of a local part.

word-of : (p : Point) (c : Code) (before : List Code) (b : Bool) → is_alphanumeric c ≡ b →
    stop_of p (reverse (span is_alphanumeric (c ∷ before)).1) ≡ (if b then stop_of p (reverse (span is_alphanumeric before).1) else c.stop)
word-of p c before true h = ap (λ (s : Spanned). stop_of p (reverse s.1)) (span-takes is_alphanumeric c before h)
word-of p c before false h =
    ap (λ (s : Spanned). stop_of p (reverse s.1)) (span-none is_alphanumeric (c ∷ before) h) ∙ stop-last p c before

past-local : (p q r : Point) (c : Code) (before : List Code) (word : Point) → is_local c ≡ true →
    word ≡ (if is_alphanumeric c then (scan_of p q before).word else c.stop) →
    scan_of p r (c ∷ before) ≡ record (scan_of p q before) { point = r; word = word; local = true }
unfolding scan_of
past-local p q r c before word h e =
    let s : ◌≡◌ {A = Spanned} (span is_local (c ∷ before)) (c ∷ (span is_local before).0, (span is_local before).1) = span-takes is_local c before h in
    λ i. record {
      from = p;
      point = r;
      word = (word-of p c before (is_alphanumeric c) refl ∙ sym e) i;
      local = not (is_empty (s i).0);
      after_slash = next_is (is_value 47) (s i).1;
      name = (email_protocol (s i).1).0;
      start = stop_of p (reverse (email_protocol (s i).1).2);
    }

-- Another code.

name-of : (c : Code) (before : List Code) →
    (email_protocol (c ∷ before)).0 ≡ (if is_value 58 c then word_name (reverse (span is_alphanumeric before).0) else N.GfmAutolinkLiteralEmail)
unfolding email_protocol word_name
name-of c before = by (is_value 58 c) (is_word "mailto" (reverse (span is_alphanumeric before).0)) (is_word "xmpp" (reverse (span is_alphanumeric before).0))
  where
    by : (a m x : Bool) →
        let s = span is_alphanumeric before in
        let r : Name × List Code × List Code = elim (a && m) [
          | true ↦ (N.GfmAutolinkLiteralMailto, c ∷ s.0, s.1)
          | false ↦ elim (a && x) [
            | true ↦ (N.GfmAutolinkLiteralXmpp, c ∷ s.0, s.1)
            | false ↦ (N.GfmAutolinkLiteralEmail, [], c ∷ before)
          ]
        ] in ◌≡◌ {A =
        Name} r.0 (if a then (if m then N.GfmAutolinkLiteralMailto else (if x then N.GfmAutolinkLiteralXmpp else N.GfmAutolinkLiteralEmail)) else N.GfmAutolinkLiteralEmail)
    by true true x = refl
    by true false true = refl
    by true false false = refl
    by false m x = refl

start-of : (p : Point) (c : Code) (before : List Code) →
    stop_of p (reverse (email_protocol (c ∷ before)).2) ≡ (if is_email (email_protocol (c ∷ before)).0 then c.stop else stop_of p (reverse (span is_alphanumeric before).1))
unfolding email_protocol
start-of p c before = by (is_value 58 c && is_word "mailto" (reverse (span is_alphanumeric before).0)) (is_value 58 c && is_word "xmpp" (reverse (span is_alphanumeric before).0))
  where
    by : (a b : Bool) →
        let s = span is_alphanumeric before in
        let r : Name × List Code × List Code = elim a [
          | true ↦ (N.GfmAutolinkLiteralMailto, c ∷ s.0, s.1)
          | false ↦ elim b [
            | true ↦ (N.GfmAutolinkLiteralXmpp, c ∷ s.0, s.1)
            | false ↦ (N.GfmAutolinkLiteralEmail, [], c ∷ before)
          ]
        ] in stop_of p (reverse r.2) ≡ (if is_email r.0 then c.stop else stop_of p (reverse s.1))
    by true b = refl
    by false true = refl
    by false false = stop-last p c before

not-word : (c : Code) (b : Bool) → is_alphanumeric c ≡ b → is_local c ≡ false → is_alphanumeric c ≡ false
not-word c true h l = let yes : is_local c ≡ true = ap (λ x. x || is_among (codes "+-._") c) h in cc
not-word c false h l = h

past-other : (p q r : Point) (c : Code) (before : List Code) (name : Name) (start : Point) → is_local c ≡ false →
    name ≡ (if is_value 58 c then word_name (reverse (span is_alphanumeric before).0) else N.GfmAutolinkLiteralEmail) →
    start ≡ (if is_email name then c.stop else (scan_of p q before).word) →
    scan_of p r (c ∷ before) ≡ record { from = p; point = r; word = c.stop; local = false; after_slash = is_value 47 c; name = name; start = start }
unfolding scan_of
past-other p q r c before name start h e f =
    let s : ◌≡◌ {A = Spanned} (span is_local (c ∷ before)) ([], c ∷ before) = span-none is_local (c ∷ before) h in
    let word : stop_of p (reverse (span is_alphanumeric (c ∷ before)).1) ≡ c.stop = word-of p c before false (not-word c (is_alphanumeric c) refl h) in
    let named : (email_protocol (span is_local (c ∷ before)).1).0 ≡ name = ap (λ (x : Spanned). (email_protocol x.1).0) s ∙ name-of c before ∙ sym e in
    let started : stop_of p (reverse (email_protocol (span is_local (c ∷ before)).1).2) ≡ start =
    ap (λ (x : Spanned). stop_of p (reverse (email_protocol x.1).2)) s
    ∙ start-of p c before
    ∙ ap (λ n. if is_email n then c.stop else stop_of p (reverse (span is_alphanumeric before).1)) (name-of c before ∙ sym e)
    ∙ sym f in
    λ i. record {
      from = p;
      point = r;
      word = word i;
      local = not (is_empty (s i).0);
      after_slash = next_is (is_value 47) (s i).1;
      name = named i;
      start = started i;
    }

-- Along a stretch.

-- the letters and digits right before
pub word-stretch : (bytes : List ℕ) (p q : Point) (scan : Scan) → IsStretch bytes p q → scan ≡ scan_at bytes p q →
    IsStretch bytes scan.word q × (between bytes scan.word q ≡ reverse (span is_alphanumeric (reverse (between bytes p q))).0)
unfolding scan_at scan_of
word-stretch bytes p q scan s e =
    let before : List Code = reverse (between bytes p q) in
    let w : Spanned = span is_alphanumeric before in
    let parts : between bytes p q ≡ reverse w.1 ++ reverse w.0 = sym (reverse-reverse (between bytes p q)) ∙ ap reverse (sym (span-append is_alphanumeric before)) ∙ reverse-append w.0 w.1 in
    let r : IsSplitInTwo bytes p q (reverse w.1) (reverse w.0) = split bytes p q (reverse w.1) (reverse w.0) s parts in
    let there : scan.word ≡ stop_of p (reverse w.1) = ap (λ (x : Scan). x.word) e in
    (subst (λ (x : Point). IsStretch bytes x q) (sym there) r.after, ap (λ (x : Point). between bytes x q) there ∙ r.back_codes)

value-same : (bytes : List ℕ) (q : Point) (code : ℕ) (v : ℕ) → value_from bytes q ≡ Some v →
    value_from bytes q ≡ Some code → v ≡ code
value-same bytes q code v e f = let same : Some v ≡ Some code = sym e ∙ f in cc

module _ (bytes : List ℕ) (p q r : Point) (scan : Scan) (code : ℕ) (stretch : IsStretch bytes p q) (begins : q.index < length bytes) (read : scan ≡ scan_at bytes p q) (value : value_from bytes q ≡ Some code) (next : r ≡ next_point bytes q) where
  long : IsLonger bytes p q
  long = longer bytes p q stretch begins

  same : (code_here bytes q).value ≡ code
  same = value-same bytes q code (code_here bytes q).value long.value value

  there : scan_at bytes p (next_point bytes q) ≡ scan_of p r (code_here bytes q ∷ reverse (between bytes p q))
  unfolding scan_at
  there =
      ap (λ (x : Point). scan_of p x (reverse (between bytes p x))) long.next
      ∙ ap (λ xs. scan_of p (stop_at bytes q) xs) long.turned
      ∙ ap (λ (x : Point). scan_of p x (code_here bytes q ∷ reverse (between bytes p q))) (sym (next ∙ long.next))

  read-of : scan ≡ scan_of p q (reverse (between bytes p q))
  unfolding scan_at
  read-of = read

  pub passed-local : (t : Bool) (word : Point) → t ≡ local_value code → t ≡ true →
      word ≡ (if alphanumeric_value code then scan.word else r) →
      record scan { point = r; word = word; local = true } ≡ scan_at bytes p (next_point bytes q)
  passed-local t word e h f =
      let c : Code = code_here bytes q in
      let before : List Code = reverse (between bytes p q) in
      ap (λ (x : Scan). record x { point = r; word = word; local = true }) read-of
      ∙ sym (there ∙ past-local p q r c before word (ap local_value same ∙ sym e ∙ h) (f ∙ ap (λ v. if alphanumeric_value v then scan.word else r) (sym same) ∙ ap (λ (x : Scan). if is_alphanumeric c then x.word else r) read-of ∙ ap (λ (x : Point). if is_alphanumeric c then (scan_of p q before).word else x) (next ∙ long.next)))

  pub passed-other : (t : Bool) (name : Name) (start : Point) → t ≡ local_value code → t ≡ false →
      name ≡ (if code == 58 then word_name (between bytes scan.word q) else N.GfmAutolinkLiteralEmail) →
      start ≡ (if is_email name then r else scan.word) →
      record { from = p; point = r; word = r; local = false; after_slash = code == 47; name = name; start = start } ≡ scan_at bytes p (next_point bytes q)
  passed-other t name start e h f g =
      let c : Code = code_here bytes q in
      let before : List Code = reverse (between bytes p q) in
      let stops : r ≡ c.stop = next ∙ long.next in
      let word : scan.word ≡ (scan_of p q before).word = ap (λ (x : Scan). x.word) read-of in
      let named : name ≡ (if is_value 58 c then word_name (reverse (span is_alphanumeric before).0) else N.GfmAutolinkLiteralEmail) =
      f
      ∙ ap (λ v. if v == 58 then word_name (between bytes scan.word q) else N.GfmAutolinkLiteralEmail) (sym same)
      ∙ ap (λ ws. if is_value 58 c then word_name ws else N.GfmAutolinkLiteralEmail) (word-stretch bytes p q scan stretch read).1 in
      let started : start ≡ (if is_email name then c.stop else (scan_of p q before).word) =
      g ∙ ap (λ (x : Point). if is_email name then x else scan.word) stops ∙ ap (λ (x : Point). if is_email name then c.stop else x) word in
      ap (λ (x : Point). record { from = p; point = r; word = x; local = false; after_slash = code == 47; name = name; start = start }) stops
      ∙ ap (λ v. record { from = p; point = r; word = c.stop; local = false; after_slash = v == 47; name = name; start = start }) (sym same)
      ∙ sym (there ∙ past-other p q r c before name start (ap local_value same ∙ sym e ∙ h) named started)
