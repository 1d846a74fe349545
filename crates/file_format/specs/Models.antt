-- What the code's tokens mean in the definitions.
use Rattle.std.specs.Prelude.{true, false}
use Rattle.meaning.specs.AbstractState.{Token, of_value, of_ref}
use Rattle.file_format.specs.declared.SignatureToken.{SignatureToken}
use Rattle.file_format.specs.declared.SignatureToken.TheVariants.{Value, Reference, MutableReference}

abbrev pub token_of : SignatureToken → Token
token_of Value = of_value
token_of Reference = of_ref false
token_of MutableReference = of_ref true
