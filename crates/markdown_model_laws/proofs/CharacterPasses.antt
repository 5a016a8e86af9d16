-- The passes: each leaf of the inline tree begins with a character.
use Rattle.std.proofs.Common.{◌≡◌, ◌≢◌, ◌&&◌, ◌||◌, not, ℕ, zero, suc, Bool, true, false, List, [], ◌∷◌, ◌++◌, length, reverse, Option, Some, None, refl, sym, ap, subst, ◌∙◌, append-nil, arith}
use Rattle.std.specs.Prelude.{codes}
use Rattle.std.specs.Str.{byte}
use Rattle.std.proofs.lemmas.List.{reverse-append}
use Rattle.markdown_event.specs.declared.event.Name.{Name}
use Rattle.markdown_event.specs.declared.event.Name.TheVariants as N
use Rattle.markdown_content.specs.Codes.{Code, is_blank}
use Rattle.markdown_content.specs.Tree.{Forest, empty, leaf_then, group_then, leaf, leaf_codes, ◌⊕◌}
use Rattle.markdown_content.proofs.TreeCodes.{leaf_codes-row}
use Rattle.markdown_model.specs.CodeTests.{is_value, is_among, is_alphanumeric, is_empty, next_is}
use Rattle.markdown_model.specs.Elements.{elements_of, string_elements_of}
use Rattle.markdown_model.specs.GfmEmailLiteral.{is_local, is_word, email_protocol, is_xmpp, email_domain, is_email_domain, email_at, email_leaves, with_emails}
use Rattle.markdown_model.specs.Grammar.{span}
use Rattle.markdown_model.specs.InlineTree.{finished_string, text_tree, string_tree}
use Rattle.markdown_model.specs.Pairs.{pair_list}
use Rattle.markdown_model.specs.Passes.{no_breaks, HardBreaks, breaks, data_onto, merged, trimmed_data, trimmed, with_emails_apart, labels_of, blank_name}
use Rattle.markdown_model.specs.Setting.{Setting, rules, within}
use Rattle.markdown_model.proofs.DefinitionSteps.{span-all}
use Rattle.markdown_model.proofs.LabelsCover.{codes-labels_of}
use Rattle.markdown_model.proofs.LeafCodes.{codes-leaf}
use Rattle.markdown_model.proofs.LiteralCodes.{found, reverse-first}
use Rattle.markdown_model.proofs.OneTree.{codes-finished_text, codes-finished_string, leaves_cover}
use Rattle.markdown_model.proofs.PassedTrees.{HoldsByParts, walks-row, walks-trimmed, walks-mailed}
use Rattle.markdown_model.proofs.PassesKeepCodes.{codes-merged, codes-paired, codes-trimmed_data}
use Rattle.markdown_model_laws.proofs.EachPass.{pairs_in, unmailed, text-has}
use Rattle.markdown_model_laws.proofs.CharacterRows.{is_low, Early, HasNoStrays, AllLow, Lows, Starts, all-early, lows-all, early-front, sound-back, sound-front, low-behind, lows-behind, all-join, low-list, value-low, among-low, IsLowTest}
use Rattle.markdown_model_laws.proofs.CharacterConstructs.{blank-low, alphanumeric-low, either-low}
use Rattle.markdown_model_laws.proofs.CharacterElements.{Lead, Flagged, text-labels-fit, string-labels-fit, paired-fits}

-- Merging.

abbrev HasEarlyLeaves : Forest → Type 0
HasEarlyLeaves empty = Unit {0}
HasEarlyLeaves (leaf_then name link cs rest) = (Early cs × (cs ≢ [])) × HasEarlyLeaves rest
HasEarlyLeaves (group_then name a b inside rest) = HasEarlyLeaves inside × HasEarlyLeaves rest

-- but for the first, where it is unlinked data
abbrev LedOpen : Forest → Type 0
LedOpen (leaf_then N.Data None cs rest) = (cs ≢ []) × HasEarlyLeaves rest
LedOpen t = HasEarlyLeaves t

abbrev LedAfter : Bool → Forest → Type 0
LedAfter true t = LedOpen t
LedAfter false t = HasEarlyLeaves t

some-more : (cs ds : List Code) → cs ≢ [] → cs ++ ds ≢ []
some-more [] ds h e = h refl
some-more (c ∷ cs) ds h e = cc

early-more : (cs ds : List Code) → cs ≢ [] → Early cs → Early (cs ++ ds)
early-more [] ds h e = absurd (h refl)
early-more (c ∷ cs) ds h e = e

onto-led : (f : Bool) (cs : List Code) (t : Forest) → cs ≢ [] → Lead (f && true) cs → LedOpen t → LedAfter f (data_onto cs t)
onto-led f cs t h0 h1 h2 = grind (arith, some-more, early-more)

merged-led : (f : Bool) (t : Forest) → Flagged f t → LedAfter f (merged t)
unfolding merged
merged-led true empty h = tt
merged-led false empty h = tt
merged-led f (leaf_then N.Data None cs rest) h = onto-led f cs (merged rest) h.0.1.0 h.0.0 (merged-led true rest h.1)
merged-led true (leaf_then name link cs rest) h = ((h.0.0, h.0.1.0), merged-led false rest h.1)
merged-led false (leaf_then name link cs rest) h = ((h.0.0, h.0.1.0), merged-led false rest h.1)
merged-led true (group_then name a b inside rest) h = (merged-led false inside h.0, merged-led false rest h.1)
merged-led false (group_then name a b inside rest) h = (merged-led false inside h.0, merged-led false rest h.1)

-- Leaves that begin with a character, and are sound.

abbrev pub IsWhole : List Code → Type 0
IsWhole cs = Starts cs × (cs ≢ [])

abbrev pub AreWhole : Forest → Type 0
AreWhole empty = Unit {0}
AreWhole (leaf_then name link cs rest) = IsWhole cs × AreWhole rest
AreWhole (group_then name a b inside rest) = AreWhole inside × AreWhole rest

led-whole : (t : Forest) → HasEarlyLeaves t → HasNoStrays (leaf_codes t) → AreWhole t
led-whole empty h s = tt
led-whole (leaf_then name link cs rest) h s = grind (arith, sound-front, s, led-whole rest h.1 (sound-back cs (leaf_codes rest) s), sound-back)
led-whole (group_then name a b inside rest) h s =
    (led-whole inside h.0 (sound-front (leaf_codes inside) (leaf_codes rest) s), led-whole rest h.1 (sound-back (leaf_codes inside) (leaf_codes rest) s))

whole : HoldsByParts AreWhole (λ name link cs. IsWhole cs) (λ name a b inside. Unit {0})
whole = grind arith

whole-row : (t u : Forest) → AreWhole t → AreWhole u → AreWhole (t ⊕ u)
whole-row t u h k = walks-row whole t u h k

whole-leaf : (name : Name) (cs : List Code) → Starts cs → AreWhole (leaf name cs)
whole-leaf name [] h = tt
whole-leaf name (c ∷ cs) h = ((h, λ e. cc), tt)

starts-front : (xs ys : List Code) → Starts (xs ++ ys) → Starts xs
starts-front xs ys h = (early-front xs ys h.0, sound-front xs ys h.1)

starts-back : (xs ys : List Code) → AllLow xs → Starts (xs ++ ys) → Starts ys
starts-back xs ys l h = (low-behind xs ys l h.1 h.0, sound-back xs ys h.1)

-- Trimming.

low-reverse : (cs : List Code) → AllLow cs → AllLow (reverse cs)
low-reverse [] h = tt
low-reverse (c ∷ cs) h =
    subst AllLow (sym (reverse-append (c ∷ []) cs)) (all-join (reverse cs) (c ∷ []) (low-reverse cs h.1) (h.0, tt))

blank-span : (on : Bool) (cs : List Code) → (let r : List Code × List Code = elim on [ true ↦ span is_blank cs | false ↦ ([], cs) ] in AllLow r.0)
blank-span true cs = low-list is_blank blank-low (span is_blank cs).0 (span-all is_blank cs)
blank-span false cs = tt

three : (m n : Name) (a b d cs : List Code) → leaf_codes (leaf N.SpaceOrTab a ⊕ leaf m b ⊕ leaf n d) ≡ cs → a ++ (b ++ d) ≡ cs
three m n a b d cs e = grind (arith, leaf_codes-row, codes-leaf)

cut-whole : (front back : Bool) (hard : HardBreaks) (cs : List Code) → Starts cs → AreWhole (trimmed_data front back hard cs)
cut-whole front back hard cs h =
    let cut : List Code × List Code = elim (back && not hard.keeps) [ true ↦ span is_blank (reverse cs) | false ↦ ([], reverse cs) ] in
    let kept : List Code = reverse cut.1 in
    let lead : List Code × List Code = elim front [ true ↦ span is_blank kept | false ↦ ([], kept) ] in
    let last : List Code = reverse cut.0 in
    let name : Name = blank_name hard last in
    let all : lead.0 ++ (lead.1 ++ last) ≡ cs = three N.Data name lead.0 lead.1 last cs (codes-trimmed_data front back hard cs) in
    let starts : Starts (lead.0 ++ (lead.1 ++ last)) = subst Starts (sym all) h in
    let first_low : AllLow lead.0 = blank-span front kept in
    let last_low : AllLow last = low-reverse cut.0 (blank-span (back && not hard.keeps) (reverse cs)) in
    let rest : Starts (lead.1 ++ last) = starts-back lead.0 (lead.1 ++ last) first_low starts in
    whole-row (leaf N.SpaceOrTab lead.0) (leaf N.Data lead.1 ⊕ leaf name last) (whole-leaf N.SpaceOrTab lead.0 (starts-front lead.0 (lead.1 ++ last) starts))
    (whole-row (leaf N.Data lead.1) (leaf name last) (whole-leaf N.Data lead.1 (starts-front lead.1 last rest)) (whole-leaf name last (all-early last last_low, sound-back lead.1 last rest.1)))

trimmed-whole : (hard : HardBreaks) (front all : Bool) (t : Forest) → AreWhole t → AreWhole (trimmed hard front all t)
trimmed-whole hard front all t h =
    walks-trimmed whole hard (λ x y z cs k. cut-whole x y z cs k.0) (λ name a b inside _ g. tt) front all t h

-- Emails.

local-low : IsLowTest is_local
local-low = either-low is_alphanumeric (is_among (codes "+-._")) alphanumeric-low (among-low (codes "+-._") refl)

protocol-low : (cs : List Code) → AllLow (email_protocol cs).1
unfolding email_protocol
protocol-low [] = tt
protocol-low (c ∷ cs) =
    by_tests (is_value (byte ":") c) (is_word "mailto" (reverse (span is_alphanumeric cs).0)) (is_word "xmpp" (reverse (span is_alphanumeric cs).0)) (value-low 58 refl c)
  where
    s : List Code × List Code
    s = span is_alphanumeric cs

    low : AllLow s.0
    low = low-list is_alphanumeric alphanumeric-low s.0 (span-all is_alphanumeric cs)

    by_tests : (v a b : Bool) → (v ≡ true → is_low c ≡ true) → (let r : Name × List Code × List Code = elim (v && a) [
      | true ↦ (N.GfmAutolinkLiteralMailto, c ∷ s.0, s.1)
      | false ↦ elim (v && b) [ true ↦ (N.GfmAutolinkLiteralXmpp, c ∷ s.0, s.1) | false ↦ (N.GfmAutolinkLiteralEmail, [], c ∷ cs) ]
    ] in AllLow r.1)
    by_tests true true b h = (h refl, low)
    by_tests true false true h = (h refl, low)
    by_tests true false false h = tt
    by_tests false a b h = tt

domain-low : (slashes : Bool) (cs : List Code) → AllLow (email_domain slashes cs).0
domain-low slashes [] = tt
domain-low slashes (c ∷ cs) =
    by_tests (is_alphanumeric c) (is_among (codes "-_") c) slashes (is_value (byte "/") c) (is_value (byte ".") c) (next_is is_alphanumeric cs) (alphanumeric-low c) (among-low (codes "-_") refl c) (value-low 47 refl c) (value-low 46 refl c) (domain-low slashes cs)
  where
    by_tests : (a b x d e g : Bool) → (a ≡ true → is_low c ≡ true) → (b ≡ true → is_low c ≡ true) → (d ≡ true → is_low c ≡ true) → (e ≡ true → is_low c ≡ true) → AllLow (email_domain slashes cs).0 →
        (let r : List Code × List Code = elim ((a || b) || ((x && d) || (e && g))) [ true ↦ let s = email_domain slashes cs in (c ∷ s.0, s.1) | false ↦ ([], c ∷ cs) ] in AllLow r.0)
    by_tests a b x d e g h k l m more = grind arith

-- the literal is a leaf of ASCII codes
abbrev IsLowLeaf : Forest → Type 0
IsLowLeaf t = (name : Name) × (cs : List Code) × (t ≡ leaf name cs) × Lows cs

abbrev HasLowLeaf : Option (List Code × Forest × List Code) → Type 0
HasLowLeaf None = Unit {0}
HasLowLeaf (Some r) = IsLowLeaf r.1

with-sign : (a b : List Code) (c : Code) → AllLow a → is_low c ≡ true → AllLow b → Lows (a ++ c ∷ b)
with-sign [] b c h k l = (k, l)
with-sign (x ∷ a) b c h k l = (h.0, all-join a (c ∷ b) h.1 (k, l))

email-low : (before : List Code) (at : Code) (after : List Code) → HasLowLeaf (email_at before at after)
unfolding email_at
email-low before at after = by_test (is_value (byte "@") at) (not (is_empty local.0) && not (next_is (is_value (byte "/")) local.1)) (is_email_domain domain.0) (value-low 64 refl at)
  where
    local : List Code × List Code
    local = span is_local before

    protocol : Name × List Code × List Code
    protocol = email_protocol local.1

    domain : List Code × List Code
    domain = email_domain (is_xmpp protocol.0) after

    front : AllLow (reverse (local.0 ++ protocol.1))
    front = low-reverse (local.0 ++ protocol.1) (all-join local.0 protocol.1 (low-list is_local local-low local.0 (span-all is_local before)) (protocol-low local.1))

    by_test : (v x d : Bool) → (v ≡ true → is_low at ≡ true) →
        HasLowLeaf (elim ((v && x) && d) [ true ↦ Some (reverse protocol.2, leaf protocol.0 (reverse (local.0 ++ protocol.1) ++ at ∷ domain.0), domain.1) | false ↦ None ])
    by_test true true true h = (protocol.0, reverse (local.0 ++ protocol.1) ++ at ∷ domain.0, refl, with-sign (reverse (local.0 ++ protocol.1)) domain.0 at front (h refl) (domain-low (is_xmpp protocol.0) after))
    by_test v x d h = tt

found-whole : (x : List Code × Forest × List Code) (cs : List Code) → IsLowLeaf x.1 → x.0 ++ (leaf_codes x.1 ++ x.2) ≡ cs → Starts cs →
    Starts x.0 × (AreWhole x.1 × Starts x.2)
found-whole x cs (name, es, same, low) e h =
    let starts : Starts (x.0 ++ (leaf_codes x.1 ++ x.2)) = subst Starts (sym e) h in
    let lows : Lows (leaf_codes x.1) = subst Lows (sym (ap leaf_codes same ∙ codes-leaf name es)) low in
    let sound : HasNoStrays (leaf_codes x.1 ++ x.2) = sound-back x.0 (leaf_codes x.1 ++ x.2) starts.1 in
    let own : HasNoStrays es = subst HasNoStrays (ap leaf_codes same ∙ codes-leaf name es) (sound-front (leaf_codes x.1) x.2 sound) in (
      starts-front x.0 (leaf_codes x.1 ++ x.2) starts,
      (subst AreWhole (sym same) (whole-leaf name es (all-early es (lows-all es low), own)), (lows-behind (leaf_codes x.1) x.2 lows sound, sound-back (leaf_codes x.1) x.2 sound)),
    )

emails-whole : (n : ℕ) (before cs : List Code) → Starts (reverse before ++ cs) → AreWhole (email_leaves n before cs)
unfolding email_leaves
emails-whole n before [] h = whole-leaf N.Data (reverse before) (subst Starts (append-nil (reverse before)) h)
emails-whole zero before (c ∷ cs) h = whole-leaf N.Data (reverse before ++ c ∷ cs) h
emails-whole (suc n) before (c ∷ cs) h = grind (arith, found, email-low, emails-whole n, reverse-first, found-whole, whole-row, whole-leaf)

mailed-whole : (t : Forest) → AreWhole t → AreWhole (with_emails_apart t)
unfolding with_emails
mailed-whole t h = walks-mailed whole (λ cs k. emails-whole (length cs) [] cs k.0) (λ name a b inside _ g. tt) t h

-- The inline trees.

module _ (s : Setting) (cs : List Code) (starts : Starts cs) where
  abbrev label_row : Forest
  label_row = labels_of (elements_of s cs)

  codes-text : leaf_codes label_row ≡ cs
  unfolding text_tree
  codes-text = codes-labels_of (elements_of s cs) ∙ sym (codes-finished_text s (pair_list s) (elements_of s cs)) ∙ (leaves_cover s cs).0

  abbrev paired_row : Forest
  paired_row = pairs_in s cs

  merged-text : AreWhole (merged paired_row)
  merged-text =
      led-whole (merged paired_row) (merged-led false paired_row (paired-fits (within (leaf_codes label_row) s) (pair_list s) label_row (text-labels-fit s cs starts.1 starts.0)))
      (subst HasNoStrays (sym (codes-merged paired_row ∙ codes-paired (within (leaf_codes label_row) s) (pair_list s) label_row ∙ codes-text)) starts.1)

  pub text-whole : AreWhole (text_tree s cs)
  text-whole = text-has AreWhole s cs (mailed-whole (unmailed s cs) done) done
    where
      done : AreWhole (unmailed s cs)
      done = trimmed-whole (breaks s) true true (merged paired_row) merged-text

  abbrev plain_row : Forest
  plain_row = labels_of (string_elements_of s cs)

  codes-string : leaf_codes plain_row ≡ cs
  unfolding string_tree
  codes-string = codes-labels_of (string_elements_of s cs) ∙ sym (codes-finished_string (rules s) (string_elements_of s cs)) ∙ (leaves_cover s cs).1

  pub string-whole : AreWhole (string_tree s cs)
  unfolding string_tree finished_string
  string-whole =
      trimmed-whole (no_breaks (rules s)) false false (merged plain_row)
      (led-whole (merged plain_row) (merged-led false plain_row (string-labels-fit s cs starts.1 starts.0)) (subst HasNoStrays (sym (codes-merged plain_row ∙ codes-string)) starts.1))
