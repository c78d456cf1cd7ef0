mod LogTexts
mod Named
