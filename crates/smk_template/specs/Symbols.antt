-- What the code's symbols are.
use Rattle.smk_template.specs.declared.reading.Symbol.{Symbol}
use Rattle.smk_template.specs.declared.reading.Symbol.TheVariants as symbol
use Rattle.smk_template.specs.Templates as template

abbrev pub symbol_of : Symbol → template.Symbol
symbol_of symbol.Opening = template.Plain 123
symbol_of symbol.Closing = template.Plain 125
symbol_of (symbol.Field text) = template.Field text.now
symbol_of (symbol.Loose text) = template.Loose text.now
