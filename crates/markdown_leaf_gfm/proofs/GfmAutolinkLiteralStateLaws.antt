-- The laws of the states of autolink literals, joined.
use Rattle.markdown_engine.specs.StateWords.{StateWords, Words}
use Rattle.markdown_event.specs.declared.state.StateName.{StateName}
use Rattle.markdown_event.specs.declared.state.StateName.TheVariants as H
use Rattle.markdown_leaf_gfm.specs.GfmAutolinkLiteral.{states}
use Rattle.markdown_leaf_gfm.proofs.GfmAutolinkLiteralAddressLaws as GfmAutolinkLiteralAddressLaws
use Rattle.markdown_leaf_gfm.proofs.GfmAutolinkLiteralProtocolLaws as GfmAutolinkLiteralProtocolLaws
use Rattle.markdown_leaf_gfm.proofs.GfmAutolinkLiteralTrailLaws as GfmAutolinkLiteralTrailLaws
use Rattle.markdown_leaf_gfm.proofs.GfmAutolinkLiteralWwwLaws as GfmAutolinkLiteralWwwLaws
use Rattle.markdown_plan.specs.LayerEquation.{EqualsLayer, AreLawful}

-- of these states, and of any other as it is given
pub laws : (W : Words) → EqualsLayer states W → (t : StateName → StateWords) → AreLawful W t → AreLawful W (states t)
laws W within t other H.GfmAutolinkLiteralProtocolStart = GfmAutolinkLiteralProtocolLaws.protocol_start-law W within
laws W within t other H.GfmAutolinkLiteralProtocolAfter = GfmAutolinkLiteralProtocolLaws.protocol_after-law W
laws W within t other H.GfmAutolinkLiteralProtocolPrefixInside = GfmAutolinkLiteralProtocolLaws.prefix-law W within
laws W within t other H.GfmAutolinkLiteralProtocolSlashesInside = GfmAutolinkLiteralProtocolLaws.slashes-law W within
laws W within t other H.GfmAutolinkLiteralWwwStart = GfmAutolinkLiteralWwwLaws.www_start-law W within
laws W within t other H.GfmAutolinkLiteralWwwPrefixInside = GfmAutolinkLiteralWwwLaws.www_prefix-law W within
laws W within t other H.GfmAutolinkLiteralWwwPrefixAfter = GfmAutolinkLiteralWwwLaws.www_prefix_after-law W within
laws W within t other H.GfmAutolinkLiteralWwwAfter = GfmAutolinkLiteralWwwLaws.www_after-law W
laws W within t other H.GfmAutolinkLiteralDomainInside = GfmAutolinkLiteralAddressLaws.domain-law W within
laws W within t other H.GfmAutolinkLiteralDomainAtPunctuation =
    GfmAutolinkLiteralAddressLaws.domain_punctuation-law W within
laws W within t other H.GfmAutolinkLiteralDomainAfter = GfmAutolinkLiteralAddressLaws.domain_after-law W within
laws W within t other H.GfmAutolinkLiteralPathInside = GfmAutolinkLiteralAddressLaws.path-law W within
laws W within t other H.GfmAutolinkLiteralPathAtPunctuation =
    GfmAutolinkLiteralAddressLaws.path_punctuation-law W within
laws W within t other H.GfmAutolinkLiteralPathAfter = GfmAutolinkLiteralAddressLaws.path_after-law W
laws W within t other H.GfmAutolinkLiteralTrail = GfmAutolinkLiteralTrailLaws.trail-law W within
laws W within t other H.GfmAutolinkLiteralTrailBracketAfter = GfmAutolinkLiteralTrailLaws.bracket_after-law W within
laws W within t other H.GfmAutolinkLiteralTrailCharRefStart = GfmAutolinkLiteralTrailLaws.reference_start-law W within
laws W within t other H.GfmAutolinkLiteralTrailCharRefInside = GfmAutolinkLiteralTrailLaws.reference-law W within
laws W within t other s = other s
